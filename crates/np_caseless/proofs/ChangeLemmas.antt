-- Changed foldings.
use Rattle.std.proofs.Common.{◌≡◌, ℕ, ◌+◌, ◌⊎◌, ◌&&◌, true, false, not, List, Option, Some, None, sym, ap, ◌∙◌, inl, inr}
use Rattle.std.specs.Prelude.{bytes_eq}
use Rattle.std.specs.List.{slice_get}
use Rattle.std.specs.Option.{option_map}
use Rattle.std.proofs.lemmas.Bool.{and_from, and_left, and_right, both_ways, cases_Bool}
use Rattle.std.proofs.lemmas.Slice.Eq.{bytes_eq-Decides}
use lib.Utf8.{scalar}
use Rattle.np_foldings.specs.Foldings.{AreFoldings, Folding}
use Rattle.np_versions.specs.Versions.{is_assigned}
use Rattle.np_versions.specs.inside.FirstFaults.{IsFirst, IsLeastOf}
use Rattle.np_caseless.specs.Folded.{FoldedVersion, folding_at, is_quiet}
use Rattle.np_caseless.specs.inside.FirstFaults.{Below}
use Rattle.np_caseless.specs.inside.FoldingChanges.{IsChangedAmong, IsChangedAt, changes_folding}
use Rattle.np_caseless.specs.inside.Leasts.{least}
use Rattle.np_caseless.proofs.LeastLemmas.{first_alike, first_grown, first_kept, first_of_both, least_of_both}
use Rattle.np_caseless.proofs.ListedLemmas.{listed, surrogate_quiet}
use Rattle.np_caseless.proofs.QuietLemmas.{quiet_folds}

module _ (old new : FoldedVersion) where
  abbrev Changes : ℕ → Type 0
  Changes c = changes_folding old new c ≡ true

  -- what folds in neither doesn't change
  pub alike_stays : (c : ℕ) → folding_at new.foldings c ≡ folding_at old.foldings c → changes_folding old new c ≡ false
  unfolding changes_folding
  alike_stays c e =
      and_right (is_assigned old.version c && is_assigned new.version c) _
      (ap not ((bytes_eq-Decides (folding_at new.foldings c) (folding_at old.foldings c)).1 e))

  pub alike_told : (c : ℕ) → bytes_eq (folding_at new.foldings c) (folding_at old.foldings c) ≡ true → changes_folding old new c ≡ false
  alike_told c e = alike_stays c ((bytes_eq-Decides (folding_at new.foldings c) (folding_at old.foldings c)).0 e)

  pub lacks_old : (c : ℕ) → is_assigned old.version c ≡ false → changes_folding old new c ≡ false
  unfolding changes_folding
  lacks_old c lacks = and_left _ _ (and_left _ _ lacks)

  pub lacks_new : (c : ℕ) → is_assigned new.version c ≡ false → changes_folding old new c ≡ false
  unfolding changes_folding
  lacks_new c lacks = and_left _ _ (and_right (is_assigned old.version c) _ lacks)

  pub changes_where : (c : ℕ) → is_assigned old.version c ≡ true → is_assigned new.version c ≡ true → bytes_eq (folding_at new.foldings c) (folding_at old.foldings c) ≡ false
      → changes_folding old new c ≡ true
  unfolding changes_folding
  changes_where c of_old of_new other = and_from _ _ (and_from _ _ of_old of_new) (ap not other)

  quiet_stays : (c : ℕ) → is_quiet old.foldings c ≡ true → is_quiet new.foldings c ≡ true → changes_folding old new c ≡ false
  quiet_stays c of_old of_new = alike_stays c (quiet_folds new.foldings c of_new ∙ sym (quiet_folds old.foldings c of_old))

  pub surrogate_stays : (c : ℕ) → AreFoldings old.foldings → AreFoldings new.foldings → ¬ (scalar c ≡ true) → changes_folding old new c ≡ false
  surrogate_stays c of_old of_new none =
      quiet_stays c (surrogate_quiet old.foldings c of_old.each none) (surrogate_quiet new.foldings c of_new.each none)

  -- so what changes is listed in one of them
  abbrev InNew : ℕ → Type 0
  InNew = IsChangedAmong old new new.foldings

  abbrev InOld : ℕ → Type 0
  InOld = IsChangedAmong old new old.foldings

  among : (fs : List Folding) (c : ℕ) → is_quiet fs c ≡ false → Changes c → IsChangedAmong old new fs c
  among fs c folds changes = let at = listed fs c folds in (at.0, at.1, (at.2, changes))

  either : (c : ℕ) → Changes c → InNew c ⊎ InOld c
  either c changes =
      elim (cases_Bool (is_quiet new.foldings c)) [
        | inl of_new ↦
            elim (cases_Bool (is_quiet old.foldings c)) [
              | inl of_old ↦ absurd (both_ways (changes_folding old new c) (quiet_stays c of_old of_new) changes)
              | inr folds ↦ inr (among old.foldings c folds changes)
            ]
        | inr folds ↦ inl (among new.foldings c folds changes)
      ]

  changed : (c : ℕ) → InNew c ⊎ InOld c → Changes c
  changed c (inl h) = h.2.1
  changed c (inr h) = h.2.1

  pub first_of_listed : (o : Option ℕ) → IsFirst (λ c. InNew c ⊎ InOld c) o → IsFirst Changes o
  first_of_listed o h = first_alike (λ c. InNew c ⊎ InOld c) Changes o changed either h

  pub changed_both : (of_new : Option ℕ) (code : ℕ) → IsFirst InNew of_new → IsLeastOf InOld code → IsFirst Changes (least of_new code)
  changed_both of_new code h k = first_of_listed (least of_new code) (least_of_both InNew InOld of_new code h k)

  pub changed_new : (of_new : Option ℕ) → IsFirst InNew of_new → ((c : ℕ) → ¬ (InOld c)) → IsFirst Changes of_new
  changed_new of_new h none = first_of_listed of_new (first_of_both InNew InOld of_new h none)

  -- at the places of a list
  module _ (fs : List Folding) where
    same_code : (c d : ℕ) → Some c ≡ Some d → d ≡ c
    same_code c d e = cc

    pub code_counts : (first : Option ℕ) (i code : ℕ) → IsFirst (Below (IsChangedAt old new fs) i) first → Some code ≡ option_map (λ (f : Folding). f.code) (slice_get fs i) → Changes code
        → IsFirst (Below (IsChangedAt old new fs) (i + 1)) (least first code)
    code_counts first i code h at changes =
        first_grown (IsChangedAt old new fs) i first code h (sym at, changes) (λ c is. same_code code c (at ∙ is.0))

    pub code_passes : (first : Option ℕ) (i code : ℕ) → IsFirst (Below (IsChangedAt old new fs) i) first → Some code ≡ option_map (λ (f : Folding). f.code) (slice_get fs i)
        → changes_folding old new code ≡ false → IsFirst (Below (IsChangedAt old new fs) (i + 1)) first
    code_passes first i code h at stays =
        first_kept (IsChangedAt old new fs) i first h
        (λ c is. both_ways (changes_folding old new code) stays (ap (changes_folding old new) (sym (same_code code c (at ∙ is.0))) ∙ is.1))

    pub no_code : (first : Option ℕ) (i : ℕ) → IsFirst (Below (IsChangedAt old new fs) i) first → None ≡ option_map (λ (f : Folding). f.code) (slice_get fs i)
        → IsFirst (Below (IsChangedAt old new fs) (i + 1)) first
    no_code first i h at = first_kept (IsChangedAt old new fs) i first h (λ c is. let e = at ∙ is.0 in cc)
