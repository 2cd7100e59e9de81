-- All breaks below a code point, and the first one.
use Rattle.std.proofs.Common.{◌≡◌, ◌≢◌, ℕ, ◌+◌, ◌<◌, ◌≤◌, ◌⊎◌, ◌↔◌, Bool, true, false, ltb, List, [], ◌∷◌, ◌++◌, length, get_or, Option, Some, None, MatchOption, refl, sym, ap, subst, ◌∙◌, arith, inl, inr}
use Rattle.std.specs.Prelude.{bytes_eq}
use Rattle.std.specs.List.{AllPairs, Contains, slice_get}
use Rattle.std.proofs.lemmas.Bool.{both_ways, cases_Bool, cases_eq, cases_lt, cond-true, cond-false, lt-ltb, ltb-true, ltb-false}
use Rattle.std.proofs.lemmas.List.Elements.{All-nil, All-push, Contains-push, Contains-append_left}
use Rattle.std.proofs.lemmas.List.Quantifiers.{all_pairs_push}
use Rattle.std.proofs.lemmas.Option.{get_or_from_slice_get, slice_get-get_or, slice_get_within}
use Rattle.std.proofs.lemmas.Slice.Eq.{bytes_eq-Decides}
use Rattle.np_chain.specs.Breaks as version
use Rattle.np_chain.specs.Extension.{Extends}
use Rattle.np_chain.specs.declared.breaks.Break.{Break}
use Rattle.np_chain.specs.declared.breaks.BreakKind.{BreakKind}
use Rattle.np_chain.proofs.BreakLemmas.{none_from_Extends, past-none}
use Rattle.np_chain.proofs.KindLemmas.{break_of-is, break_of-none}
use Rattle.np_chain.specs.inside.BreakTests.{break_of}
use Rattle.np_versions.specs.Conditions.{IsSound}
use Rattle.np_versions.specs.Versions.{VersionData}
use Rattle.np_versions.specs.inside.FirstFaults.{IsFirst, IsLeastOf}
use Rattle.np_caseless.specs.Breaks.{AreBreaks, HasBreak, IsBreakOf, IsFirstBreak}
use Rattle.np_caseless.specs.Extension.{ExtendsFolded}
use Rattle.np_caseless.specs.Folded.{FoldedVersion, folding_at}
use Rattle.np_caseless.specs.declared.breaks.FoldedBreak.{FoldedBreak}
use Rattle.np_caseless.specs.declared.breaks.FoldedBreakKind.{FoldedBreakKind}
use Rattle.np_caseless.specs.declared.breaks.FoldedBreakKind.TheVariants.{OfVersion, FoldingChanged}
use Rattle.np_caseless.specs.inside.BreakSteps.{AreBelow, HasNoneOf, IsAtNext, IsNext, first_break, place_behind}
use Rattle.np_caseless.specs.inside.FoldingChanges.{changes_folding}
use Rattle.np_caseless.proofs.BreakLemmas.{changed_from, of_folding, of_version, one_break}

-- what holds of two versions holds of equal ones
pub along : (P : VersionData → VersionData → Type 0) (a b c d : VersionData) → a ≡ c → b ≡ d → P a b → P c d
along P a b c d e f h = subst (λ x. P x d) e (subst (P a) f h)

abbrev broken : FoldedBreakKind → ℕ → FoldedBreak
broken kind c = record { kind = kind; code = c }

cases_break : (o : Option BreakKind) → (o ≡ None) ⊎ ((kind : BreakKind) × (o ≡ Some kind))
cases_break None = inl refl
cases_break (Some kind) = inr (kind, refl)

module _ (old new : FoldedVersion) where
  -- ---- code point by code point

  pub below_zero : AreBelow old new 0 []
  below_zero =
      record {
        each = All-nil (λ b. IsBreakOf old new b.code b.kind);
        below = All-nil (λ b. b.code < 0);
        rises = λ i j d lt within. absurd (omega arith);
        whole = λ c kind lt is. absurd (omega arith);
      }

  pub more_none : (n : ℕ) (breaks : List FoldedBreak) → AreBelow old new n breaks → ((kind : FoldedBreakKind) → ¬ (HasBreak old new n kind)) → AreBelow old new (n + 1) breaks
  more_none n breaks are none =
      record {
        each = are.each;
        below = λ k d lt. let h = are.below k d lt in omega arith;
        rises = are.rises;
        whole = λ c kind lt is.
            elim (cases_eq c n) [
              | inl same ↦ absurd (none kind (subst (λ m. HasBreak old new m kind) same is.has))
              | inr other ↦ are.whole c kind (omega arith) is
            ];
      }

  pub more_some : (n : ℕ) (breaks : List FoldedBreak) (kind : FoldedBreakKind) → AreBelow old new n breaks → IsBreakOf old new n kind → AreBelow old new (n + 1) (breaks ++ broken kind n ∷ [])
  more_some n breaks kind are some =
      record {
        each = All-push (λ b. IsBreakOf old new b.code b.kind) breaks (broken kind n) are.each some;
        below = All-push (λ b. b.code < n + 1) breaks (broken kind n) (λ k d lt. let h = are.below k d lt in omega arith) (omega arith);
        rises = all_pairs_push (λ b d. b.code < d.code) breaks (broken kind n) are.rises (λ k d lt. are.below k d lt);
        whole = λ c other lt is.
            elim (cases_eq c n) [
              | inl same ↦
                  let one = one_break old new n kind other some (subst (λ m. IsBreakOf old new m other) same is) in
                  let f : broken kind n ≡ broken other c = ap (λ k. broken k n) one ∙ ap (λ m. broken other m) (sym same) in
                  subst (λ b. Contains (breaks ++ broken kind n ∷ []) b) f (Contains-push breaks (broken kind n))
              | inr before ↦ Contains-append_left breaks (broken kind n ∷ []) (broken other c) (are.whole c other (omega arith) is)
            ];
      }

  -- ---- at the end of the code points

  none_past : IsSound old.version → IsSound new.version → (n c : ℕ) (kind : FoldedBreakKind) → n ≡ 0x110000 → n ≤ c → ¬ (HasBreak old new c kind)
  none_past sound_old sound_new n c (OfVersion kind) end le h =
      break_of-none old.version new.version c (past-none old.version new.version sound_old sound_new n c end le) kind h
  none_past sound_old sound_new n c FoldingChanged end le h = let lt = sound_old.bounded c h.0.in_old in absurd (omega arith)

  pub all_below : IsSound old.version → IsSound new.version → (n : ℕ) (breaks : List FoldedBreak) → n ≡ 0x110000 → AreBelow old new n breaks → AreBreaks old new breaks
  all_below sound_old sound_new n breaks end are =
      record {
        each = are.each;
        rises = are.rises;
        whole = λ c kind is.
            elim (cases_lt c n) [ inl lt ↦ are.whole c kind lt is | inr le ↦ absurd (none_past sound_old sound_new n c kind end le is.has) ];
      }

  -- ---- no break exactly where the later version extends the earlier one

  none_six : Extends old.version new.version → (c : ℕ) → HasNoneOf old new c
  none_six ext c kind h = break_of-none old.version new.version c (none_from_Extends old.version new.version ext c) kind h

  pub folds_where : Extends old.version new.version → ((c : ℕ) → changes_folding old new c ≡ false) → ExtendsFolded old new
  folds_where ext none =
      record {
        extends = ext;
        folds = λ c has.
            elim (cases_Bool (bytes_eq (folding_at new.foldings c) (folding_at old.foldings c))) [
              | inl same ↦ (bytes_eq-Decides (folding_at new.foldings c) (folding_at old.foldings c)).0 same
              | inr other ↦
                  absurd
                  (both_ways (changes_folding old new c) (none c)
                  (changed_from old new c
                  (record { in_old = has; in_new = (ext.keeps c has).assigned }, λ e. both_ways _ other ((bytes_eq-Decides (folding_at new.foldings c) (folding_at old.foldings c)).1 e))))
            ];
      }

  pub extends_where : Extends old.version new.version → ((c : ℕ) → ¬ (changes_folding old new c ≡ true)) → ExtendsFolded old new
  extends_where ext none =
      folds_where ext
      (λ c. elim (cases_Bool (changes_folding old new c)) [ inl changes ↦ absurd (none c changes) | inr stays ↦ stays ])

  pub no_break_where : ExtendsFolded old new → (c : ℕ) (kind : FoldedBreakKind) → ¬ (HasBreak old new c kind)
  no_break_where ext c (OfVersion kind) h = none_six ext.extends c kind h
  no_break_where ext c FoldingChanged h = h.1 (ext.folds c h.0.in_old)

  contains_nothing : (b : FoldedBreak) → ¬ (Contains [] b)
  contains_nothing b h = let lt = h.1 in omega arith

  no_version_break : AreBreaks old new [] → (six : List Break) → version.AreBreaks old.version new.version six → six ≡ []
  no_version_break are [] of_six = refl
  no_version_break are (b ∷ bs) of_six =
      let is = of_version old new b.code b.kind (of_six.each 0 b (omega arith)) in absurd (contains_nothing (broken (OfVersion b.kind) b.code) (are.whole b.code (OfVersion b.kind) is))

  stays_where : AreBreaks old new [] → Extends old.version new.version → (c : ℕ) → changes_folding old new c ≡ false
  stays_where are ext c =
      elim (cases_Bool (changes_folding old new c)) [
        | inl changes ↦ absurd (contains_nothing (broken FoldingChanged c) (are.whole c FoldingChanged (of_folding old new c (none_six ext c) changes)))
        | inr stays ↦ stays
      ]

  none_listed : (breaks : List FoldedBreak) → AreBreaks old new breaks → ExtendsFolded old new → breaks ≡ []
  none_listed [] are ext = refl
  none_listed (b ∷ bs) are ext = absurd (no_break_where ext b.code b.kind (are.each 0 b (omega arith)).has)

  pub nil_exactly : (six : List Break) (breaks : List FoldedBreak) → version.AreBreaks old.version new.version six → ((six ≡ []) ↔ Extends old.version new.version) → AreBreaks old new breaks
      → (breaks ≡ []) ↔ ExtendsFolded old new
  nil_exactly six breaks of_six extends are = (
    λ nil.
        let none = subst (AreBreaks old new) nil are in
        let ext = extends.0 (no_version_break none six of_six) in
        folds_where ext (stays_where none ext),
    none_listed breaks are,
  )

  -- ---- the first one

  pub first_refutes : (first : FoldedBreak) → IsFirstBreak old new first → ExtendsFolded old new → ⊥
  first_refutes first is ext = no_break_where ext first.code first.kind is.breaks.has

  abbrev IsFirstChanged : Option ℕ → Type 0
  IsFirstChanged changed = IsFirst (λ c. changes_folding old new c ≡ true) changed

  -- of the foldings, where the version extends the other
  least_folding : (code : ℕ) → Extends old.version new.version → IsLeastOf (λ c. changes_folding old new c ≡ true) code → (c : ℕ) (kind : FoldedBreakKind) → HasBreak old new c kind → code ≤ c
  least_folding code ext first c (OfVersion kind) h = absurd (none_six ext c kind h)
  least_folding code ext first c FoldingChanged h = first.least c (changed_from old new c h)

  pub first_of_folding : (code : ℕ) → Extends old.version new.version → IsLeastOf (λ c. changes_folding old new c ≡ true) code → IsFirstBreak old new (broken FoldingChanged code)
  first_of_folding code ext first =
      record { breaks = of_folding old new code (none_six ext code) first.holds; least = least_folding code ext first }

  -- of both
  module _ (b : Break) (first : version.IsFirstBreak old.version new.version b) where
    least_version : (changed : Option ℕ) → IsFirstChanged changed → ((code : ℕ) → changed ≡ Some code → b.code ≤ code) → (c : ℕ) (kind : FoldedBreakKind) → HasBreak old new c kind → b.code ≤ c
    least_version changed is no_less c (OfVersion kind) h = first.least c kind h
    least_version None is no_less c FoldingChanged h = absurd (is c (changed_from old new c h))
    least_version (Some code) is no_less c FoldingChanged h =
        let le = no_less code refl in let least = is.least c (changed_from old new c h) in omega arith

    version_first : (changed : Option ℕ) → IsFirstChanged changed → ((code : ℕ) → changed ≡ Some code → b.code ≤ code) → IsFirstBreak old new (broken (OfVersion b.kind) b.code)
    version_first changed is no_less = record { breaks = of_version old new b.code b.kind first.breaks; least = least_version changed is no_less }

    least_changed : (code : ℕ) → code < b.code → IsLeastOf (λ c. changes_folding old new c ≡ true) code → (c : ℕ) (kind : FoldedBreakKind) → HasBreak old new c kind → code ≤ c
    least_changed code lt is c (OfVersion kind) h = let le = first.least c kind h in omega arith
    least_changed code lt is c FoldingChanged h = is.least c (changed_from old new c h)

    folding_first : (code : ℕ) → code < b.code → IsLeastOf (λ c. changes_folding old new c ≡ true) code → IsFirstBreak old new (broken FoldingChanged code)
    folding_first code lt is =
        record {
          breaks = of_folding old new code (λ kind h. (let le = first.least code kind h in absurd (omega arith))) is.holds;
          least = least_changed code lt is;
        }

    same_code : (m n : ℕ) → Some m ≡ Some n → m ≡ n
    same_code m n e = cc

    first_two : (code : ℕ) (t : Bool) → ltb code b.code ≡ t → IsLeastOf (λ c. changes_folding old new c ≡ true) code → IsFirstBreak old new (first_break b (Some code))
    first_two code true e is =
        subst (IsFirstBreak old new) (sym (cond-true (ltb code b.code) (broken FoldingChanged code) (broken (OfVersion b.kind) b.code) e))
        (folding_first code (ltb-true code b.code e) is)
    first_two code false e is =
        let le = ltb-false code b.code e in
        subst (IsFirstBreak old new) (sym (cond-false (ltb code b.code) (broken FoldingChanged code) (broken (OfVersion b.kind) b.code) e))
        (version_first (Some code) is (λ n same. (let s = same_code code n same in omega arith)))

    pub told_first : (changed : Option ℕ) → IsFirstChanged changed → IsFirstBreak old new (first_break b changed)
    told_first None is = version_first None is (λ n same. absurd (cc))
    told_first (Some code) is = first_two code (ltb code b.code) refl is

-- ---- the break of the versions at hand

module _ (six : List Break) where
  pub next_zero : IsNext six 0 0
  next_zero = record { before = λ k b lt at. absurd (omega arith); behind = λ k b le at. omega arith }

  rise_at : AllPairs (λ b d. b.code < d.code) six → (i j : ℕ) (b d : Break) → i < j → slice_get six i ≡ Some b → slice_get six j ≡ Some d → b.code < d.code
  rise_at rises i j b d lt of_b of_d =
      let within = slice_get_within six j d of_d in
      let less = rises i j b lt within in
      let one = ap (λ (x : Break). x.code) (get_or_from_slice_get six i b b of_b) in
      let two = ap (λ (x : Break). x.code) (get_or_from_slice_get six j d b of_d) in
      omega (arith, less, one, two)

  same_break : (b d : Break) → Some b ≡ Some d → b ≡ d
  same_break b d e = cc

  module _ (rises : AllPairs (λ b d. b.code < d.code) six) (next n : ℕ) (h : IsNext six next n) where
    pub next_hit : (b : Break) → slice_get six next ≡ Some b → b.code ≡ n → IsNext six (next + 1) (n + 1)
    next_hit b here code =
        record {
          before = λ k d lt at.
              elim (cases_eq k next) [
                | inl same ↦ let e = same_break d b (sym at ∙ ap (slice_get six) same ∙ here) in omega (arith, ap (λ (x : Break). x.code) e, code)
                | inr other ↦ let less = h.before k d (omega arith) at in omega arith
              ];
          behind = λ k d le at. let rise = rise_at rises next k b d (omega arith) here at in omega (arith, rise, code);
        }

    -- no break of n stands at a later place
    pub not_there : ((b : Break) → slice_get six next ≡ Some b → b.code ≢ n) → (k : ℕ) (d : Break) → next ≤ k → slice_get six k ≡ Some d → d.code ≢ n
    not_there none k d le at code =
        elim (cases_eq k next) [
          | inl same ↦ none d (ap (slice_get six) (sym same) ∙ at) code
          | inr other ↦
              let within = slice_get_within six k d at in
              let b = get_or six next d in
              let here : slice_get six next ≡ Some b = slice_get-get_or six next d (omega arith) in
              let from = h.behind next b (omega arith) here in
              let rise = rise_at rises next k b d (omega arith) here at in
              omega (arith, from, rise, code)
        ]

    pub next_miss : ((b : Break) → slice_get six next ≡ Some b → b.code ≢ n) → IsNext six next (n + 1)
    next_miss none =
        record {
          before = λ k d lt at. let less = h.before k d lt at in omega arith;
          behind = λ k d le at. let from = h.behind k d le at in let other = not_there none k d le at in omega (arith, from, other);
        }

-- what the break at hand says of the versions
module _ (old new : FoldedVersion) (six : List Break) (are : version.AreBreaks old.version new.version six) (next n : ℕ) (h : IsNext six next n) where
  none_of : ((b : Break) → slice_get six next ≡ Some b → b.code ≢ n) → HasNoneOf old new n
  none_of none kind has =
      elim (cases_break (break_of old.version new.version n)) [
        | inl nothing ↦ break_of-none old.version new.version n nothing kind has
        | inr some ↦
            let brk : Break = record { kind = some.0; code = n } in
            let place = are.whole n some.0 (break_of-is old.version new.version n some.0 some.1) in
            let at : slice_get six place.0 ≡ Some brk = slice_get-get_or six place.0 brk place.1 ∙ ap Some place.2 in
            elim (cases_lt place.0 next) [
              | inl lt ↦ let less = h.before place.0 brk lt at in omega arith
              | inr le ↦ not_there six are.rises next n h none place.0 brk le at refl
            ]
      ]

  break_at : (kind : BreakKind) → slice_get six next ≡ Some (record { kind = kind; code = n }) → version.IsBreakOf old.version new.version n kind
  break_at kind at =
      let brk : Break = record { kind = kind; code = n } in
      let within = slice_get_within six next brk at in
      let same = get_or_from_slice_get six next brk brk at in
      subst (λ b. version.IsBreakOf old.version new.version b.code b.kind) same (are.each next brk within)

  pub at_hand : (found : Option BreakKind) → IsAtNext six next n found → MatchOption found (HasNoneOf old new n) (version.IsBreakOf old.version new.version n)
  at_hand None none = none_of none
  at_hand (Some kind) at = break_at kind at

  -- and the place behind
  pub next_behind : (found : Option BreakKind) (m : ℕ) → IsAtNext six next n found → m ≡ place_behind six next found → IsNext six m (n + 1)
  next_behind None m none e = subst (λ k. IsNext six k (n + 1)) (sym e) (next_miss six are.rises next n h none)
  next_behind (Some kind) m at e =
      let brk : Break = record { kind = kind; code = n } in
      let within = slice_get_within six next brk at in
      subst (λ k. IsNext six k (n + 1)) (sym (e ∙ cond-true (ltb next (length six)) (next + 1) next (lt-ltb next (length six) within)))
      (next_hit six are.rises next n h brk at refl)
