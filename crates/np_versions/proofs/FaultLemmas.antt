-- What holds because the rows are those of a data file, the fault that is told, and the conditions where there is none.
use Rattle.std.proofs.Common.{◌≡◌, ◌≢◌, ℕ, ◌<◌, ◌≤◌, true, List, [], ◌∷◌, length, Option, Some, None, is_some, refl, sym, ap, ◌∙◌, arith, inl, inr, lt-ltb, ◌⊎◌}
use Rattle.std.proofs.Common.{false, ◌+◌, MatchOption}
use lib.Utf8.{scalar}
use Rattle.std.specs.Prelude.{option_map}
use Rattle.np_versions.proofs.Words.{list_all, slice_get, cond-true, cond-false, and_parts, both_ways, Entry, IsRow, AreRows, is_syllable, syllable_pair}
use Rattle.np_versions.proofs.Words.{IsCompositeOf, IsSound, IsFullDecomposition, has_depth, VersionData, entry_at, is_assigned, is_hangul, class_of, class_in}
use Rattle.np_versions.proofs.Words.{file_mapping, mapping_in, decomposition_mapping, has_hangul, IsMappedToUnassigned, IsLeastOf, IsTooDeep, IsTooLong}
use Rattle.np_versions.proofs.Words.{IsAmbiguous, IsHangulWrong, IsFirst, AreFirsts, sooner, least_fault}
use Rattle.np_code_points.proofs.HangulLemmas.{pair_exists, pair_small}
use Rattle.np_versions.proofs.CompositeLemmas.{syllable_bounds}
use Rattle.np_versions.proofs.RowLemmas.{entry_at-row, entry_at-within, at-row, at-found, firsts-le, place_of_entry, mapped-off}
use Rattle.np_versions.proofs.HangulLemmas.{pair_assigned, on_where_right}
use Rattle.np_versions.specs.declared.faults.FirstFaults.{FirstFaults}
use Rattle.np_versions.specs.declared.faults.TableFault.{TableFault}
use Rattle.np_versions.specs.declared.faults.TableFault.TheVariants.{MapsToUnassigned, TooDeep, TooLong, AmbiguousPair, HangulWrong}
use Rattle.np_versions.specs.TableFaults.{place_of, number_of, HasFault, IsBeforeFault, IsLeastFault, IsFaultless}

bounded_in : (o : Option Entry) (c : ℕ) → ((e : Entry) → o ≡ Some e → IsRow e) → ((e : Entry) → o ≡ Some e → c ≤ e.last) → is_some o ≡ true → c < 0x110000
bounded_in None c row last h = cc
bounded_in (Some e) c row last h = let b = (row e refl).bounded in let l = last e refl in omega arith

bounded-at : (v : VersionData) (c : ℕ) → AreRows v.entries → is_assigned v c ≡ true → c < 0x110000
unfolding is_assigned
bounded-at v c rows h = bounded_in (entry_at v.entries c) c (λ e is. entry_at-row v.entries c e rows is) (λ e is. (entry_at-within v.entries c e is).1) h

class_bound : (o : Option Entry) → ((e : Entry) → o ≡ Some e → IsRow e) → class_in o ≤ 254
class_bound None row = omega arith
class_bound (Some e) row = (row e refl).class

classes-at : (v : VersionData) (c : ℕ) → AreRows v.entries → class_of v c ≤ 254
unfolding class_of
classes-at v c rows = class_bound (entry_at v.entries c) (λ e is. entry_at-row v.entries c e rows is)

scalars_in : (o : Option Entry) → ((e : Entry) → o ≡ Some e → IsRow e) → list_all scalar (mapping_in o) ≡ true
scalars_in o row = grind arith

scalar_low : (n : ℕ) → n < 0xD800 → scalar n ≡ true
scalar_low n h = cond-true _ _ _ (lt-ltb n 0xD800 h)

scalars_pair : (c : ℕ) → is_syllable c ≡ true → list_all scalar (syllable_pair c) ≡ true
scalars_pair c h =
    let pair = pair_exists c in
    let small = pair_small c pair.0 pair.1 h pair.2 in
    grind (arith, scalar_low)

scalars-at : (v : VersionData) (c : ℕ) → AreRows v.entries → list_all scalar (decomposition_mapping v c) ≡ true
unfolding decomposition_mapping file_mapping
scalars-at v c rows =
    let file = scalars_in (entry_at v.entries c) (λ e is. entry_at-row v.entries c e rows is) in
    grind (arith, cond-true, cond-false, scalars_pair)

mapped_in_row : (o : Option Entry) (c : ℕ) → ((e : Entry) → o ≡ Some e → IsRow e) → ((e : Entry) → o ≡ Some e → (e.first ≤ c) × (c ≤ e.last)) → mapping_in o ≢ [] → scalar c ≡ true
mapped_in_row None c row within h = absurd (h refl)
mapped_in_row (Some e) c row within h = let is = row e refl in let range = within e refl in grind arith

mapped_scalar-at : (v : VersionData) (c : ℕ) → AreRows v.entries → decomposition_mapping v c ≢ [] → scalar c ≡ true
unfolding decomposition_mapping file_mapping
mapped_scalar-at v c rows h =
    let file = mapped_in_row (entry_at v.entries c) c (λ e is. entry_at-row v.entries c e rows is) (λ e is. entry_at-within v.entries c e is) in
    grind (arith, syllable_bounds, scalar_low, cond-false, and_parts)

-- rows of a data file meet the conditions where they meet those that no row tells alone
pub sound-by : (v : VersionData) → AreRows v.entries → ((c : ℕ) → list_all (is_assigned v) (decomposition_mapping v c) ≡ true) → ((c : ℕ) → has_depth v 32 c ≡ true)
    → ((c : ℕ) (full : List ℕ) → IsFullDecomposition v true (c ∷ []) full → length full ≤ 64) → ((a b c d : ℕ) → IsCompositeOf v a b c → IsCompositeOf v a b d → c ≡ d)
    → ((c : ℕ) → is_hangul c ≡ true → is_assigned v c ≡ true → has_hangul v ≡ true) → IsSound v
sound-by v rows assigned shallow short unlike hangul = grind (arith, bounded-at, classes-at, scalars-at, mapped_scalar-at)

-- ---- mappings that hold an unassigned code point

-- only a mapping in the file may lack something
pub lacks_in_file : (v : VersionData) (c : ℕ) → IsMappedToUnassigned v c → list_all (is_assigned v) (file_mapping v c) ≡ false
unfolding decomposition_mapping
lacks_in_file v c h = grind (arith, and_parts, both_ways, cond-true, pair_assigned, cond-false)

pub file_lacks : (v : VersionData) (c : ℕ) → list_all (is_assigned v) (file_mapping v c) ≡ false → IsMappedToUnassigned v c
unfolding decomposition_mapping
file_lacks v c h = grind (arith, mapped-off, cond-false)

cases_Entry : (o : Option Entry) → (o ≡ None) ⊎ ((e : Entry) × (o ≡ Some e))
cases_Entry None = inl refl
cases_Entry (Some e) = inr (e, refl)

-- the row that a faulty code point has
pub lacking_row : (v : VersionData) (c : ℕ) → IsMappedToUnassigned v c → (e : Entry) × (entry_at v.entries c ≡ Some e) × (list_all (is_assigned v) e.mapping ≡ false)
unfolding file_mapping
lacking_row v c h =
    let lacks = lacks_in_file v c h in
    let cases = cases_Entry (entry_at v.entries c) in
    grind arith

abbrev pub RowsHold : VersionData → ℕ → Type 0
RowsHold v n = (k : ℕ) → k < n → list_all (is_assigned v) (mapping_in (slice_get v.entries k)) ≡ true

row_lacks : (v : VersionData) (e : Entry) (i : ℕ) → AreRows v.entries → slice_get v.entries i ≡ Some e → list_all (is_assigned v) e.mapping ≡ false → IsMappedToUnassigned v e.first
unfolding file_mapping
row_lacks v e i rows at lacks =
    let found = at-found v.entries i e.first e rows at (omega arith) (at-row v.entries i e rows at).rises in
    file_lacks v e.first (ap (λ o. list_all (is_assigned v) (mapping_in o)) (sym found ∙ at) ∙ lacks)

pub first_lacking-some : (v : VersionData) (i : ℕ) (e : Entry) → AreRows v.entries → slice_get v.entries i ≡ Some e → list_all (is_assigned v) e.mapping ≡ false → RowsHold v i → IsLeastOf (IsMappedToUnassigned v) e.first
first_lacking-some v i e rows at lacks before = grind (arith, row_lacks, lacking_row, place_of_entry, both_ways, firsts-le, entry_at-within)

pub first_lacking-none : (v : VersionData) → RowsHold v (length v.entries) → (c : ℕ) → ¬ (IsMappedToUnassigned v c)
first_lacking-none v all c h = grind (arith, lacking_row, place_of_entry, both_ways)

-- ---- a version without faults meets the conditions

unlike_below : (v : VersionData) → IsFaultless v → (a b c d : ℕ) → IsCompositeOf v a b c → IsCompositeOf v a b d → c < d → ⊥
unlike_below v none a b c d hc hd lt =
    none (AmbiguousPair d) (record { primary = hd.primary; other = c; smaller = lt; other_primary = hc.primary; same = hc.mapping ∙ sym hd.mapping })

pub sound-faultless : (v : VersionData) → AreRows v.entries → IsFaultless v → IsSound v
sound-faultless v rows none =
    let shallow : (c : ℕ) → has_depth v 32 c ≡ true = λ c.
    let deep = λ (h : has_depth v 32 c ≡ false). none (TooDeep c) (record { deep = h }) in grind arith in
    sound-by v rows
    (λ c.
    let lacks = λ (h : list_all (is_assigned v) (decomposition_mapping v c) ≡ false). none (MapsToUnassigned c) (record { lacks = h }) in grind arith)
    shallow
    (λ c full is.
    let long = λ (h : 64 < length full). none (TooLong c) (record { shallow = shallow c; full = full; decomposes = is; long = h }) in grind arith)
    (λ a b c d hc hd. let up = unlike_below v none a b c d hc hd in let down = unlike_below v none a b d c hd hc in grind arith)
    (λ c h assigned. on_where_right v (λ d wrong. none (HangulWrong d) wrong) c h assigned)

-- ---- the least of several faults

-- the least fault of those whose number is at most n
FirstTo : VersionData → ℕ → Option TableFault → Type 0
FirstTo v n None = (g : TableFault) → HasFault v g → n < number_of g
FirstTo v n (Some f) = HasFault v f × (number_of f ≤ n) × ((g : TableFault) → HasFault v g → number_of g ≤ n → IsBeforeFault f g)

first_none : (v : VersionData) → FirstTo v 0 None
unfolding FirstTo
first_none v g h = grind arith

-- one kind of faults: the number n + 1, at each code point that P holds of
record IsKind (v : VersionData) (n : ℕ) (P : ℕ → Type 0) (fault : ℕ → TableFault) : Type 0 where
  place : (c : ℕ) → place_of (fault c) ≡ c
  number : (c : ℕ) → number_of (fault c) ≡ n + 1
  has : (c : ℕ) → P c → HasFault v (fault c)
  each : (g : TableFault) → HasFault v g → number_of g ≡ n + 1 → P (place_of g)

-- a fault of this kind alone
kind_first : (v : VersionData) (n c : ℕ) (P : ℕ → Type 0) (fault : ℕ → TableFault) → IsKind v n P fault → IsLeastOf P c
    → (g : TableFault) → HasFault v g → number_of g ≡ n + 1 → IsBeforeFault (fault c) g
kind_first v n c P fault kind least g h number = grind arith

before-trans : (f g h : TableFault) → IsBeforeFault f g → IsBeforeFault g h → IsBeforeFault f h
before-trans f g h a b = grind arith

module _ (v : VersionData) (n : ℕ) (P : ℕ → Type 0) (fault : ℕ → TableFault) (kind : IsKind v n P fault) where
  -- no fault of the new kind
  step_none : (best : Option TableFault) → FirstTo v n best → ((c : ℕ) → ¬ (P c)) → FirstTo v (n + 1) (sooner best None)
  unfolding FirstTo
  step_none None first none = λ g h. let here = kind.each g h in let no = none (place_of g) in let low = first g h in grind arith
  step_none (Some f) first none = (
    first.0,
    (let le = first.1 in omega arith),
    λ g h le. let here = kind.each g h in let no = none (place_of g) in let rest = first.2 g h in grind arith,
  )

  -- a first fault of the new kind, and none before
  step_only : (c : ℕ) → FirstTo v n None → IsLeastOf P c → FirstTo v (n + 1) (Some (fault c))
  unfolding FirstTo
  step_only c first least =
      let num = kind.number c in
      (kind.has c least.holds, omega arith, λ g h le. let low = first g h in kind_first v n c P fault kind least g h (omega arith))

  -- the new one is sooner
  step_new : (f : TableFault) (c : ℕ) → FirstTo v n (Some f) → IsLeastOf P c → place_of (fault c) < place_of f → FirstTo v (n + 1) (Some (fault c))
  unfolding FirstTo
  step_new f c first least lt = (
    kind.has c least.holds,
    (let num = kind.number c in omega arith),
    λ g h le. let here = kind_first v n c P fault kind least g h in let rest = first.2 g h in grind (arith, before-trans),
  )

  old_before : (f : TableFault) (c : ℕ) → number_of f ≤ n → place_of f ≤ place_of (fault c) → IsBeforeFault f (fault c)
  old_before f c below le = grind arith

  -- the old one is not later
  step_old : (f : TableFault) (c : ℕ) → FirstTo v n (Some f) → IsLeastOf P c → place_of f ≤ place_of (fault c) → FirstTo v (n + 1) (Some f)
  unfolding FirstTo
  step_old f c first least le = (
    first.0,
    (let below = first.1 in omega arith),
    λ g h le2.
        let old = before-trans f (fault c) g (old_before f c first.1 le) in
        let here = kind_first v n c P fault kind least g h in let rest = first.2 g h in grind arith,
  )

  step : (best : Option TableFault) (code : Option ℕ) → FirstTo v n best → IsFirst P code → FirstTo v (n + 1) (sooner best (option_map fault code))
  step best None first none = step_none best first none
  step None (Some c) first least = step_only c first least
  step (Some f) (Some c) first least =
      let new = step_new f c first least in
      let old = step_old f c first least in
      grind arith

-- what a fault is, by its number
abbrev AreKinds : VersionData → TableFault → Type 0
AreKinds v g =
    (number_of g ≡ 1 → IsMappedToUnassigned v (place_of g))
    × (number_of g ≡ 2 → IsTooDeep v (place_of g))
    × (number_of g ≡ 3 → IsTooLong v (place_of g))
    × (number_of g ≡ 4 → IsAmbiguous v (place_of g))
    × (number_of g ≡ 5 → IsHangulWrong v (place_of g))

kinds : (v : VersionData) (g : TableFault) → HasFault v g → AreKinds v g
kinds v g h = grind arith

told : (v : VersionData) (o : Option TableFault) → FirstTo v 5 o → MatchOption o (IsFaultless v) (IsLeastFault v)
unfolding FirstTo
told v o first = grind arith

pub least_fault-told : (v : VersionData) (f : FirstFaults) → AreFirsts v f → MatchOption (least_fault f) (IsFaultless v) (IsLeastFault v)
least_fault-told v f firsts =
    let mapped : IsKind v 0 (IsMappedToUnassigned v) MapsToUnassigned = grind (arith, kinds) in
    let deep : IsKind v 1 (IsTooDeep v) TooDeep = grind (arith, kinds) in
    let long : IsKind v 2 (IsTooLong v) TooLong = grind (arith, kinds) in
    let ambiguous : IsKind v 3 (IsAmbiguous v) AmbiguousPair = grind (arith, kinds) in
    let hangul : IsKind v 4 (IsHangulWrong v) HangulWrong = grind (arith, kinds) in
    let one : FirstTo v 1 (option_map MapsToUnassigned f.mapped) = step v 0 _ MapsToUnassigned mapped None f.mapped (first_none v) firsts.mapped in
    let two = step v 1 (IsTooDeep v) TooDeep deep (option_map MapsToUnassigned f.mapped) f.deep one firsts.deep in
    let three = step v 2 (IsTooLong v) TooLong long _ f.long two firsts.long in
    let four = step v 3 (IsAmbiguous v) AmbiguousPair ambiguous _ f.ambiguous three firsts.ambiguous in
    let five = step v 4 (IsHangulWrong v) HangulWrong hangul _ f.hangul four firsts.hangul in
    told v (least_fault f) five
