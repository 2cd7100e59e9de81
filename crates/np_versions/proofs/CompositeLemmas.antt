-- Primary composites: by what the file says, by their pairs and in the order of these.
use Rattle.std.proofs.Common.{◌≡◌, ℕ, ◌<◌, ◌≤◌, true, false, ◌&&◌, length, Option, Some, None, refl, ap, ◌∙◌, arith, zero, suc, ◌⊎◌, Bool, List, [], ◌∷◌, ◌++◌}
use Rattle.std.proofs.Common.{IsTrue, ◌↔◌, inl, inr, eqb-true, eq-eqb, append-nil, ◌+◌, get_or, flat_map, sym, subst, take}
use Rattle.std.proofs.lemmas.List.Sorted.{IsNonDecreasingBy-from_all_adjacent, All-permutation, IsPermutation-sym, Contains-permutation}
use Rattle.std.specs.Ordering.{is_lt, ordering_then, nat_cmp}
use Rattle.std.specs.declared.cmp.Ordering.{Ordering}
use Rattle.std.specs.List.Sorted.{IsPermutation, IsSorted}
use Rattle.np_versions.proofs.Words.{and_parts, and_right, is_listed, Entry, IsRow, AreRows, HasLength, MapKind, Plain, Canonical, Compatibility, is_syllable}
use Rattle.np_versions.proofs.Words.{VersionData, entry_at, file_kind, file_mapping, mapping_in, kind_in, is_canonical, is_empty, is_excluded}
use Rattle.np_versions.proofs.Words.{decomposition_kind, decomposition_mapping, has_hangul, is_primary, IsPrimary, cond-true, cond-false, and_from, both_ways}
use Rattle.np_versions.proofs.Words.{is_assigned, class_of, parts, full_of, IsCompositeOf, or_this, least_below, is_pair, composite, IsSound, cases_lt}
use Rattle.np_versions.proofs.Words.{get_or_default, slice_get-get_or, All, AllWithin, Composite, Lists, IsCompositeAt, pair_rank, rank, IsInRange, AreOrdered}
use Rattle.np_versions.proofs.Words.{Contains, slice_get, cases_Bool, none-some, same_Some, slice_get_within, get_or_from_slice_get, take_more, flat_map-append}
use Rattle.np_versions.proofs.Words.{Contains-append_cases, Contains-append_left, Contains-append_right, lies_in, AreOfFile, pair_in, composites_in, nat_tests}
use Rattle.np_versions.specs.inside.Primaries.{is_file_primary}
use Rattle.np_versions.proofs.RowLemmas.{entry_at-row, entry_at-nil, entry_at-hit, entry_at-miss, at-row, entry_at-within, first-at, file_mapping-found}
use Rattle.np_versions.proofs.RowLemmas.{mapped-off}
use Rattle.np_versions.proofs.HangulLemmas.{by_arithmetic, decomposition_kind-on, decomposition_mapping-on, hangul_parts, head_hangul, shape_of, syllable_row}
use Rattle.np_versions.proofs.HangulLemmas.{decomposition_mapping-off}
use Rattle.np_versions.proofs.MappingLemmas.{is_empty-true, full_of-mapped}
use Rattle.np_code_points.proofs.HangulLemmas.{first_same}

pub primary-file : (v : VersionData) (c : ℕ) → (has_hangul v && is_syllable c) ≡ false → is_file_primary v c ≡ is_primary v c
unfolding is_primary decomposition_kind decomposition_mapping
primary-file v c off = grind (arith, nat_tests)

plain_of : (k : MapKind) (n : ℕ) → HasLength k n → n ≡ 0 → is_canonical k ≡ false
plain_of Plain n h e = refl
plain_of Canonical n h e = absurd (omega arith)
plain_of Compatibility n h e = refl

plain_in : (o : Option Entry) → ((e : Entry) → o ≡ Some e → IsRow e) → is_empty (mapping_in o) ≡ true → is_canonical (kind_in o) ≡ false
plain_in None row h = refl
plain_in (Some e) row h = plain_of e.kind (length e.mapping) (row e refl).fits (ap length (is_empty-true e.mapping h))

-- no mapping in the file, so none of the canonical kind
pub plain-at : (v : VersionData) (c : ℕ) → AreRows v.entries → is_empty (file_mapping v c) ≡ true → is_canonical (file_kind v c) ≡ false
unfolding file_mapping file_kind
plain-at v c rows h = plain_in (entry_at v.entries c) (λ e is. entry_at-row v.entries c e rows is) h

pub syllable_bounds : (c : ℕ) → is_syllable c ≡ true → (0xAC00 ≤ c) × (c < 0xD7A4)
syllable_bounds c h = grind (arith, nat_tests)

-- a syllable of the arithmetic is a primary composite
pub primary-syllable : (v : VersionData) (c : ℕ) → AreRows v.entries → (has_hangul v && is_syllable c) ≡ true → IsPrimary v c
unfolding is_excluded
primary-syllable v c rows both =
    let halves = and_parts (has_hangul v) (is_syllable c) both in
    let row = hangul_parts v c (syllable_row v c halves.0 halves.1) in
    let pair = shape_of c halves.1 in
    record {
      canonical = decomposition_kind-on v c both;
      first = pair.first;
      second = pair.second;
      pair = decomposition_mapping-on v c both ∙ pair.pair;
      starter = row.class;
      first_starter = (by_arithmetic v halves.0 pair.first (head_hangul pair.first pair.head)).class;
      included = and_right (is_listed v.exclusions c) _ (plain-at v c rows row.mapping);
    }

-- ---- the least number that passes

or_this-some : (o : Option ℕ) (b : Bool) (n k : ℕ) → or_this o b n ≡ Some k → (o ≡ Some k) ⊎ ((o ≡ None) × (b ≡ true) × (n ≡ k))
or_this-some o b n k h = grind arith

least_below-some : (p : ℕ → Bool) (n k : ℕ) → least_below p n ≡ Some k → p k ≡ true
unfolding least_below
least_below-some p zero k h = cc
least_below-some p (suc n) k h =
    let rest = least_below-some p n k in grind (arith, or_this-some)

or_this-none : (o : Option ℕ) (b : Bool) (n : ℕ) → or_this o b n ≡ None → (o ≡ None) × (b ≡ false)
or_this-none o b n h = grind arith

least_below-none : (p : ℕ → Bool) (n k : ℕ) → least_below p n ≡ None → k < n → p k ≡ false
unfolding least_below
least_below-none p zero k h lt = absurd (omega arith)
least_below-none p (suc n) k h lt =
    let halves = or_this-none (least_below p n) (p n) n h in
    let rest = least_below-none p n k halves.0 in
    grind arith

pub cases_Option : (o : Option ℕ) → (o ≡ None) ⊎ ((p : ℕ) × (o ≡ Some p))
cases_Option None = inl refl
cases_Option (Some p) = inr (p, refl)

is_pair-true : (a b : ℕ) (xs : List ℕ) → is_pair a b xs ≡ true → xs ≡ a ∷ b ∷ []
is_pair-true a b xs h = grind (arith, and_parts, eqb-true)

is_pair_from : (a b : ℕ) (xs : List ℕ) → xs ≡ a ∷ b ∷ [] → is_pair a b xs ≡ true
is_pair_from a b xs e = ap (is_pair a b) e ∙ and_from _ _ (eq-eqb a a refl) (eq-eqb b b refl)

-- ---- a code point with a mapping is assigned

file_mapped-assigned : (v : VersionData) (c : ℕ) → is_empty (file_mapping v c) ≡ false → is_assigned v c ≡ true
unfolding file_mapping is_assigned
file_mapped-assigned v c h = grind arith

pub mapped-assigned : (v : VersionData) (c : ℕ) → is_empty (decomposition_mapping v c) ≡ false → is_assigned v c ≡ true
unfolding decomposition_mapping
mapped-assigned v c h = grind (arith, and_parts, hangul_parts, syllable_row, file_mapped-assigned, cond-false)

-- ---- primary composites

-- the relation and the test
pub primary-from : (v : VersionData) (c : ℕ) → is_primary v c ≡ true → IsPrimary v c
unfolding is_primary
primary-from v c h = grind (arith, and_parts, eqb-true)

pub primary-test : (v : VersionData) (c : ℕ) → IsPrimary v c → is_primary v c ≡ true
unfolding is_primary
primary-test v c is = grind (arith, and_from, eq-eqb)

-- what a call that makes the test answers
pub primary-decides : (v : VersionData) (c : ℕ) (b : Bool) → b ≡ is_primary v c → IsTrue b ↔ IsPrimary v c
primary-decides v c b is = grind (arith, primary-from, primary-test)

pub composite_parts : (v : VersionData) (compat : Bool) (a b c : ℕ) → IsCompositeOf v a b c → parts v compat c ≡ a ∷ b ∷ []
unfolding parts
composite_parts v compat a b c h = grind (arith, cond-true)

pub composite_first : (v : VersionData) (a b c : ℕ) → IsCompositeOf v a b c → class_of v a ≡ 0
composite_first v a b c h = grind (arith, first_same)

pub composite-assigned : (v : VersionData) (a b c : ℕ) → IsCompositeOf v a b c → is_assigned v c ≡ true
composite-assigned v a b c h = mapped-assigned v c (ap is_empty h.mapping)

pub primary-assigned : (v : VersionData) (c : ℕ) → IsPrimary v c → is_assigned v c ≡ true
primary-assigned v c h = mapped-assigned v c (ap is_empty h.pair)

pub composite-some : (v : VersionData) (a b c : ℕ) → composite v a b ≡ Some c → IsCompositeOf v a b c
unfolding composite
composite-some v a b c h =
    let halves = and_parts (is_primary v c) (is_pair a b (decomposition_mapping v c)) (least_below-some _ 0x110000 c h) in
    record { primary = primary-from v c halves.0; mapping = is_pair-true a b (decomposition_mapping v c) halves.1 }

-- no pair with this second part has a composite
pub composite-never : (v : VersionData) (s : ℕ) → ((a p : ℕ) → ¬ (IsCompositeOf v a s p)) → (a : ℕ) → composite v a s ≡ None
composite-never v s never a =
    let no = λ (p : ℕ) (h : composite v a s ≡ Some p). never a p (composite-some v a s p h) in
    let cases = cases_Option (composite v a s) in
    grind arith

module _ (v : VersionData) (sound : IsSound v) where
  pub composite-none : (a b c : ℕ) → composite v a b ≡ None → ¬ IsCompositeOf v a b c
  unfolding composite
  composite-none a b c h is =
      both_ways _ (least_below-none _ 0x110000 c h (sound.bounded c (composite-assigned v a b c is)))
      (and_from _ _ (primary-test v c is.primary) (is_pair_from a b (decomposition_mapping v c) is.mapping))

  pub composite_from : (a b c : ℕ) → IsCompositeOf v a b c → composite v a b ≡ Some c
  composite_from a b c is =
      let some = λ (d : ℕ) (h : composite v a b ≡ Some d). sound.unlike a b d c (composite-some v a b d h) is in
      let none = λ (h : composite v a b ≡ None). composite-none a b c h is in
      grind arith

  pub composite-splits : (compat : Bool) (a b c : ℕ) → composite v a b ≡ Some c → full_of v compat c ≡ full_of v compat a ++ full_of v compat b
  composite-splits compat a b c h =
      let parts_are = composite_parts v compat a b c (composite-some v a b c h) in
      grind (arith, full_of-mapped, append-nil)

  pub composite-starter : (a b c : ℕ) → composite v a b ≡ Some c → class_of v c ≡ 0
  composite-starter a b c h = (composite-some v a b c h).primary.starter

-- ---- composites in the order of their pairs

-- the order of the fields, one after another
abbrev cmp : Composite → Composite → Ordering
cmp x y = ordering_then (nat_cmp x.first y.first) (ordering_then (nat_cmp x.second y.second) (nat_cmp x.code y.code))

rank_from_cmp : (x y : Composite) → IsInRange x → IsInRange y → is_lt (cmp y x) ≡ false → rank x ≤ rank y
rank_from_cmp x y p q h = grind (arith, nat_tests)

pub AreOrdered-from_sort : (xs ys : List Composite) → All IsInRange xs → IsPermutation xs ys → IsSorted cmp ys → AreOrdered ys
AreOrdered-from_sort xs ys range moved sorted =
    let all = All-permutation IsInRange xs ys moved range in
    record {
      rising = IsNonDecreasingBy-from_all_adjacent rank ys (λ k d lt. rank_from_cmp _ _ (all k d (omega arith)) (all (k + 1) d lt) (sorted k d (omega arith) lt));
      range = all;
    }

-- ---- slots with numbers

module _ (cs : List Composite) (order : AreOrdered cs) where
  -- earlier places have no later pairs
  pub pairs_rise : (i j : ℕ) (d : Composite) → i ≤ j → j < length cs → pair_rank (get_or cs i d).first (get_or cs i d).second ≤ pair_rank (get_or cs j d).first (get_or cs j d).second
  pairs_rise i j d le lt = omega (arith, order.rising i j d le lt, order.range i d (omega arith), order.range j d lt)

  -- what comes before a pair at a place does so at each earlier one
  pub before_more : (at : ℕ) (x : Composite) (r : ℕ) → at < length cs → x ≡ get_or cs at x → pair_rank x.first x.second < r → AllWithin (λ c. pair_rank c.first c.second < r) cs 0 (at + 1)
  before_more at x r lt is less = λ k d low high. grind (arith, get_or_default cs at d x lt, pairs_rise k at d)

  -- and what doesn't, at no later one
  pub after_more : (at : ℕ) (x : Composite) (r : ℕ) → at < length cs → x ≡ get_or cs at x → r ≤ pair_rank x.first x.second → AllWithin (λ c. r ≤ pair_rank c.first c.second) cs at (length cs)
  after_more at x r lt is more = λ k d low high. grind (arith, get_or_default cs at d x lt, pairs_rise at k d)

  -- where a pair stands anywhere, it stands at the first place with no earlier pair
  pub lists-place : (a b at : ℕ) → a < 0x110000 → b < 0x110000 → AllWithin (λ c. pair_rank c.first c.second < pair_rank a b) cs 0 at → AllWithin (λ c. pair_rank a b ≤ pair_rank c.first c.second) cs at (length cs) → (code : ℕ) → Lists cs a b code → (own : ℕ) × IsCompositeAt cs at a b own
  lists-place a b at in_a in_b below above code has =
      let d : Composite = record { first = a; second = b; code = code } in
      let same = ap (λ (c : Composite). pair_rank c.first c.second) has.2 in
      elim (cases_lt has.0 at) [
        | inl early ↦ let less = below has.0 d (omega arith) early in absurd (omega arith)
        | inr late ↦
            let x = get_or cs at d in
            let lt : at < length cs = omega (arith, late, has.1) in
            let up = pairs_rise at has.0 d late has.1 in
            let least = above at d (omega arith) lt in
            let range = order.range at d lt in
            let first : x.first ≡ a = omega arith in
            let second : x.second ≡ b = omega arith in
            let of : ℕ → ℕ → Composite = λ f s. record { first = f; second = s; code = x.code } in
            (x.code, slice_get-get_or cs at d lt ∙ ap (λ f. Some (of f x.second)) first ∙ ap (λ s. Some (of a s)) second)
      ]

-- ---- lists of lists

only : (y x : Composite) → Contains (y ∷ []) x → y ≡ x
only y x h = grind arith

flat-found : (f : Entry → List Composite) (es : List Entry) (x : Composite) → Contains (flat_map f es) x → (i : ℕ) × (e : Entry) × (slice_get es i ≡ Some e) × Contains (f e) x
flat-found f [] x h = grind arith
flat-found f (y ∷ ys) x h =
    elim (Contains-append_cases (f y) (flat_map f ys) x h) [
      | inl here ↦ (zero, y, refl, here)
      | inr there ↦ let r = flat-found f ys x there in (suc r.0, r.1, r.2, r.3)
    ]

flat-has : (f : Entry → List Composite) (es : List Entry) (x : Composite) (i : ℕ) (e : Entry) → slice_get es i ≡ Some e → Contains (f e) x → Contains (flat_map f es) x
flat-has f [] x i e h has = absurd (none-some e h)
flat-has f (y ∷ ys) x zero e h has = Contains-append_left (f y) (flat_map f ys) x (subst (λ (z : Entry). Contains (f z) x) (sym (same_Some y e h)) has)
flat-has f (y ∷ ys) x (suc i) e h has = Contains-append_right (f y) (flat_map f ys) x (flat-has f ys x i e h has)

-- a row that is found has a place
found-place : (es : List Entry) (c : ℕ) (e : Entry) → entry_at es c ≡ Some e → (i : ℕ) × (slice_get es i ≡ Some e)
found-place [] c e h = absurd (none-some e (sym (entry_at-nil c) ∙ h))
found-place (x ∷ xs) c e h =
    elim (cases_Bool (lies_in (Some x) c)) [
      | inl in_row ↦ (zero, sym (entry_at-hit x xs c in_row) ∙ h)
      | inr past ↦ let r = found-place xs c e (sym (entry_at-miss x xs c past) ∙ h) in (suc r.0, r.1)
    ]

-- ---- what a row gives

pub record FromRow (primary : Bool) (c : ℕ) (mapping : List ℕ) (x : Composite) : Type 0 where
  pub passes : primary ≡ true
  pub pair : mapping ≡ x.first ∷ x.second ∷ []
  pub code : x.code ≡ c

from_row : (primary : Bool) (c : ℕ) (mapping : List ℕ) (x : Composite) → Contains (pair_in primary c mapping) x → FromRow primary c mapping x
from_row primary c mapping x h = grind (arith, only)

to_row : (primary : Bool) (c a b : ℕ) (mapping : List ℕ) → primary ≡ true → mapping ≡ a ∷ b ∷ [] → Contains (pair_in primary c mapping) (record { first = a; second = b; code = c })
to_row primary c a b mapping passes pair = grind arith

mapped_row : (v : VersionData) (c : ℕ) → is_empty (file_mapping v c) ≡ false → (e : Entry) × (entry_at v.entries c ≡ Some e)
unfolding file_mapping
mapped_row v c h = grind arith

-- ---- all rows together

module _ (v : VersionData) (rows : AreRows v.entries) where
  record RowGives (x : Composite) : Type 0 where
    code_pair : decomposition_mapping v x.code ≡ x.first ∷ x.second ∷ []
    primary : is_primary v x.code ≡ true
    off : (has_hangul v && is_syllable x.code) ≡ false

  row_gives : (x : Composite) → Contains (flat_map (composites_in v) v.entries) x → RowGives x
  row_gives x h =
      let at = flat-found (composites_in v) v.entries x h in
      let e = at.1 in
      let r = from_row (is_primary v e.first) e.first e.mapping x at.3 in
      let mapping : file_mapping v e.first ≡ x.first ∷ x.second ∷ [] = file_mapping-found v e.first e (first-at v.entries at.0 e rows at.2) ∙ r.pair in
      let off = mapped-off v e.first (ap is_empty mapping) in
      grind (arith, decomposition_mapping-off)

  row_has : (a b c : ℕ) → IsCompositeOf v a b c → (has_hangul v && is_syllable c) ≡ false → Lists (flat_map (composites_in v) v.entries) a b c
  row_has a b c is off =
      let mapping : file_mapping v c ≡ a ∷ b ∷ [] = sym (decomposition_mapping-off v c off) ∙ is.mapping in
      let found = mapped_row v c (ap is_empty mapping) in
      let e = found.0 in
      let place = found-place v.entries c e found.1 in
      let here : e.mapping ≡ a ∷ b ∷ [] = sym (file_mapping-found v c e found.1) ∙ mapping in
      let alone = (at-row v.entries place.0 e rows place.1).alone (λ none. cc) in
      let lists = entry_at-within v.entries c e found.1 in
      let same : e.first ≡ c = omega arith in
      let has = to_row (is_primary v e.first) e.first a b e.mapping (ap (is_primary v) same ∙ primary-test v c is.primary) here in
      flat-has (composites_in v) v.entries _ place.0 e place.1 (subst (λ k. Contains (pair_in (is_primary v e.first) e.first e.mapping) (record { first = a; second = b; code = k })) same has)

  pub AreOfFile-from : (xs cs : List Composite) → xs ≡ flat_map (composites_in v) v.entries → IsPermutation xs cs → AreOfFile v cs
  AreOfFile-from xs cs is moved =
      let back : (x : Composite) → Contains cs x → Contains (flat_map (composites_in v) v.entries) x =
      λ x h. subst (λ l. Contains l x) is (Contains-permutation cs xs x (IsPermutation-sym xs cs moved) h) in
      record {
        composites = λ a b c h. let r = row_gives _ (back _ h) in record { primary = primary-from v c r.primary; mapping = r.code_pair };
        no_syllables = λ a b c h. (row_gives _ (back _ h)).off;
        all = λ a b c h off. Contains-permutation xs cs _ moved (subst (λ l. Contains l (record { first = a; second = b; code = c })) (sym is) (row_has a b c h off));
      }

-- ---- the loop over the rows

pub flat_step : (f : Entry → List Composite) (es : List Entry) (at : ℕ) (e : Entry) (old new piece : List Composite) → slice_get es at ≡ Some e → old ≡ flat_map f (take at es) → new ≡ old ++ piece → piece ≡ f e → new ≡ flat_map f (take (at + 1) es)
flat_step f es at e old new piece found before grown is =
    let fits = slice_get_within es at e found in
    let here : take (at + 1) es ≡ take at es ++ e ∷ [] = take_more es at e fits ∙ ap (λ (x : Entry). take at es ++ x ∷ []) (get_or_from_slice_get es at e e found) in
    grind (arith, append-nil, flat_map-append)
