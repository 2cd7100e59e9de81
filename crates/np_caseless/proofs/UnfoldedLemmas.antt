-- Lowercases that lack a folding.
use Rattle.std.proofs.Common.{◌≡◌, ℕ, ◌+◌, ◌<◌, ◌&&◌, Bool, true, false, not, eqb, List, length, get_or, Option, Some, refl, sym, ap, subst, ◌∙◌}
use Rattle.std.specs.List.{Contains, slice_get}
use Rattle.std.proofs.lemmas.Bool.{and_from, and_left, and_parts, and_right, both_ways, eq-eqb, eqb-false, ne_eqb, not-true}
use Rattle.std.proofs.lemmas.Option.{get_or_from_slice_get, slice_get-get_or}
use Rattle.np_foldings.specs.declared.lowercases.Lowercase.{Lowercase}
use Rattle.np_versions.specs.inside.FirstFaults.{IsFirst}
use Rattle.np_versions.specs.Versions.{is_assigned}
use Rattle.np_caseless.specs.Faults.{IsNotFolded}
use Rattle.np_caseless.specs.Folded.{FoldedVersion, is_quiet}
use Rattle.np_caseless.specs.inside.FirstFaults.{Below}
use Rattle.np_caseless.specs.inside.Unfolded.{IsUnfoldedAt, lacks_folding}
use Rattle.np_caseless.specs.inside.Leasts.{least}
use Rattle.np_caseless.proofs.LeastLemmas.{first_alike, first_grown, first_kept}

module _ (v : FoldedVersion) (lowercases : List Lowercase) where
  record Lacks (pair : Lowercase) : Type 0 where
    other : pair.lower ≡ pair.code → ⊥
    assigned : is_assigned v.version pair.lower ≡ true
    stays : is_quiet v.foldings pair.code ≡ true
    lower_stays : is_quiet v.foldings pair.lower ≡ true

  lacks_parts : (pair : Lowercase) → lacks_folding v pair ≡ true → Lacks pair
  unfolding lacks_folding
  lacks_parts pair h =
      let last = and_parts (not (eqb pair.lower pair.code) && is_assigned v.version pair.lower && is_quiet v.foldings pair.code) (is_quiet v.foldings pair.lower) h in
      let third = and_parts (not (eqb pair.lower pair.code) && is_assigned v.version pair.lower) (is_quiet v.foldings pair.code) last.0 in
      let second = and_parts (not (eqb pair.lower pair.code)) (is_assigned v.version pair.lower) third.0 in
      record {
        other = eqb-false pair.lower pair.code (not-true (eqb pair.lower pair.code) second.0);
        assigned = second.1;
        stays = third.1;
        lower_stays = last.1;
      }

  lacks_from : (pair : Lowercase) → Lacks pair → lacks_folding v pair ≡ true
  unfolding lacks_folding
  lacks_from pair h =
      and_from _ _ (and_from _ _ (and_from _ _ (ap not (ne_eqb pair.lower pair.code h.other)) h.assigned) h.stays) h.lower_stays

  -- by its parts
  pub lacks_same : (pair : Lowercase) → pair.lower ≡ pair.code → lacks_folding v pair ≡ false
  unfolding lacks_folding
  lacks_same pair e = and_left _ _ (and_left _ _ (and_left _ _ (ap not (eq-eqb pair.lower pair.code e))))

  pub lacks_unassigned : (pair : Lowercase) → is_assigned v.version pair.lower ≡ false → lacks_folding v pair ≡ false
  unfolding lacks_folding
  lacks_unassigned pair lacks = and_left _ _ (and_left _ _ (and_right (not (eqb pair.lower pair.code)) _ lacks))

  pub lacks_quiet : (pair : Lowercase) → is_quiet v.foldings pair.code ≡ false → lacks_folding v pair ≡ false
  unfolding lacks_folding
  lacks_quiet pair folds =
      and_left _ _ (and_right (not (eqb pair.lower pair.code) && is_assigned v.version pair.lower) (is_quiet v.foldings pair.code) folds)

  pub lacks_last : (pair : Lowercase) → (pair.lower ≡ pair.code → ⊥) → is_assigned v.version pair.lower ≡ true → is_quiet v.foldings pair.code ≡ true
      → lacks_folding v pair ≡ is_quiet v.foldings pair.lower
  unfolding lacks_folding
  lacks_last pair other assigned stays =
      ap (λ (b : Bool). b && is_quiet v.foldings pair.lower) (and_from _ _ (and_from _ _ (ap not (ne_eqb pair.lower pair.code other)) assigned) stays)

  listed_at : (c : ℕ) → Below (IsUnfoldedAt v lowercases) (length lowercases) c → IsNotFolded v lowercases c
  listed_at c h =
      let at = h.2 in
      let pair = at.0 in
      let is = lacks_parts pair at.3 in
      let whole : pair ≡ record { code = c; lower = pair.lower } = ap (λ (x : ℕ). record { code = x; lower = pair.lower }) at.2 in
      record {
        lower = pair.lower;
        lowers = subst (Contains lowercases) whole (h.0, h.1, get_or_from_slice_get lowercases h.0 pair pair at.1);
        other = λ e. is.other (e ∙ sym at.2);
        assigned = is.assigned;
        stays = subst (λ d. is_quiet v.foldings d ≡ true) at.2 is.stays;
        lower_stays = is.lower_stays;
      }

  at_listed : (c : ℕ) → IsNotFolded v lowercases c → Below (IsUnfoldedAt v lowercases) (length lowercases) c
  at_listed c h =
      let pair : Lowercase = record { code = c; lower = h.lower } in
      let place = h.lowers in
      let lacks = lacks_from pair (record { other = h.other; assigned = h.assigned; stays = h.stays; lower_stays = h.lower_stays }) in
      (place.0, place.1, (pair, slice_get-get_or lowercases place.0 pair place.1 ∙ ap Some place.2, refl, lacks))

  pub first_unfolded : (o : Option ℕ) → IsFirst (Below (IsUnfoldedAt v lowercases) (length lowercases)) o → IsFirst (IsNotFolded v lowercases) o
  first_unfolded o h = first_alike (Below (IsUnfoldedAt v lowercases) (length lowercases)) (IsNotFolded v lowercases) o listed_at at_listed h

  -- at a place
  pub unfolded_here : (k : ℕ) (pair : Lowercase) → slice_get lowercases k ≡ Some pair → lacks_folding v pair ≡ true → IsUnfoldedAt v lowercases k pair.code
  unfolded_here k pair at lacks = (pair, at, refl, lacks)

  same_pair : (pair other : Lowercase) → Some pair ≡ Some other → other ≡ pair
  same_pair pair other e = cc

  pub unfolded_only : (k : ℕ) (pair : Lowercase) → slice_get lowercases k ≡ Some pair → (c : ℕ) → IsUnfoldedAt v lowercases k c → c ≡ pair.code
  unfolded_only k pair at c h = let same = same_pair pair h.0 (sym at ∙ h.1) in sym h.2 ∙ ap (λ (p : Lowercase). p.code) same

  pub unfolded_none : (k : ℕ) (pair : Lowercase) → slice_get lowercases k ≡ Some pair → lacks_folding v pair ≡ false → (c : ℕ) → ¬ (IsUnfoldedAt v lowercases k c)
  unfolded_none k pair at lacks c h =
      let same = same_pair pair h.0 (sym at ∙ h.1) in both_ways (lacks_folding v pair) lacks (ap (lacks_folding v) (sym same) ∙ h.3)

  -- one more
  pub pair_counts : (first o : Option ℕ) (i : ℕ) (d : Lowercase) (lacks : Bool) → i < length lowercases → IsFirst (Below (IsUnfoldedAt v lowercases) i) first
      → lacks ≡ lacks_folding v (get_or lowercases i d) → lacks ≡ true → o ≡ least first (get_or lowercases i d).code → IsFirst (Below (IsUnfoldedAt v lowercases) (i + 1)) o
  pair_counts first o i d lacks lt h test found same =
      let pair = get_or lowercases i d in
      let at = slice_get-get_or lowercases i d lt in
      subst (IsFirst (Below (IsUnfoldedAt v lowercases) (i + 1))) (sym same)
      (first_grown (IsUnfoldedAt v lowercases) i first pair.code h (unfolded_here i pair at (sym test ∙ found)) (unfolded_only i pair at))

  pub pair_passes : (first o : Option ℕ) (i : ℕ) (d : Lowercase) (lacks : Bool) → i < length lowercases → IsFirst (Below (IsUnfoldedAt v lowercases) i) first
      → lacks ≡ lacks_folding v (get_or lowercases i d) → lacks ≡ false → o ≡ first → IsFirst (Below (IsUnfoldedAt v lowercases) (i + 1)) o
  pair_passes first o i d lacks lt h test passes same =
      let pair = get_or lowercases i d in
      let at = slice_get-get_or lowercases i d lt in
      subst (IsFirst (Below (IsUnfoldedAt v lowercases) (i + 1))) (sym same)
      (first_kept (IsUnfoldedAt v lowercases) i first h (unfolded_none i pair at (sym test ∙ passes)))
