-- Where the images of code points are assigned, so are they.
use Rattle.std.proofs.Common.{◌≡◌, ℕ, Bool, true, false, List, [], ◌∷◌, flat_map, refl, sym, ap, ◌∙◌, inl, inr}
use Rattle.std.specs.List.{list_all}
use Rattle.std.proofs.lemmas.Bool.{and_from, and_parts, both_ways, cases_Bool, true_from_ne_false}
use Rattle.std.proofs.lemmas.List.{append-nil}
use Rattle.std.proofs.lemmas.List.Folds.{list_all-append}
use Rattle.np_chain.proofs.StabilityLemmas.{assigned-normal_form}
use Rattle.np_code_points.specs.declared.forms.Form.TheVariants.{Nfd, Nfkd}
use Rattle.np_forms.specs.Assigned.{IsAssigned}
use Rattle.np_forms.specs.inside.NormalForms.{decomposed, normal_form}
use Rattle.np_versions.specs.Versions.{class_of, is_assigned, is_empty}
use Rattle.np_versions.specs.inside.FullDecompositions.{full_of}
use Rattle.np_versions.proofs.CompositeLemmas.{mapped-assigned}
use Rattle.np_versions.proofs.MappingLemmas.{full_of-final, parts-cases}
use Rattle.np_caseless.specs.Conditions.{IsSoundFolding}
use Rattle.np_caseless.specs.Folded.{FoldedVersion, folding_at, is_quiet}
use Rattle.np_caseless.specs.inside.Images.{AreImages, folded_parts, last_parts, once_folded}
use Rattle.np_caseless.proofs.BackwardLemmas.{order_all}
use Rattle.np_caseless.proofs.QuietLemmas.{quiet_folds}

module _ (v : FoldedVersion) (sound : IsSoundFolding v) where
  abbrev assigned : ℕ → Bool
  assigned = is_assigned v.version

  -- what isn't assigned neither folds nor decomposes
  lone_folding : (c : ℕ) → assigned c ≡ false → folding_at v.foldings c ≡ c ∷ []
  lone_folding c lacks =
      quiet_folds v.foldings c
      (elim (cases_Bool (is_quiet v.foldings c)) [
        | inl quiet ↦ quiet
        | inr folds ↦ absurd (both_ways (assigned c) lacks (sound.folds_assigned c folds))
      ])

  lone_full : (compat : Bool) (c : ℕ) → assigned c ≡ false → full_of v.version compat c ≡ c ∷ []
  lone_full compat c lacks =
      full_of-final v.version compat sound.version.shallow c
      (parts-cases v.version compat (λ l. is_empty l ≡ true) refl c
      (true_from_ne_false _ (λ some. both_ways (assigned c) lacks (mapped-assigned v.version c some))))

  lone_parts : (compat : Bool) (c : ℕ) → assigned c ≡ false → folded_parts v compat c ≡ c ∷ []
  unfolding folded_parts
  lone_parts compat c lacks =
      ap (flat_map (full_of v.version compat)) (lone_folding c lacks) ∙ append-nil (full_of v.version compat c) ∙ lone_full compat c lacks

  lone_once : (compat : Bool) (c : ℕ) → assigned c ≡ false → once_folded v compat c ≡ c ∷ []
  unfolding once_folded
  lone_once compat c lacks =
      ap (flat_map (folded_parts v compat)) (lone_full false c lacks) ∙ append-nil (folded_parts v compat c) ∙ lone_parts compat c lacks

  lone_last : (compat : Bool) (c : ℕ) → assigned c ≡ false → last_parts v compat c ≡ c ∷ []
  unfolding last_parts
  lone_last false c lacks = lone_once false c lacks
  lone_last true c lacks = ap (flat_map (folded_parts v true)) (lone_once true c lacks) ∙ append-nil (folded_parts v true c) ∙ lone_parts true c lacks

  back : (g : ℕ → List ℕ) → ((c : ℕ) → assigned c ≡ false → g c ≡ c ∷ []) → (xs : List ℕ) → list_all assigned (flat_map g xs) ≡ true → list_all assigned xs ≡ true
  back g lone [] all = refl
  back g lone (x ∷ xs) all =
      let both = and_parts (list_all assigned (g x)) (list_all assigned (flat_map g xs)) (sym (list_all-append assigned (g x) (flat_map g xs)) ∙ all) in
      and_from (assigned x) (list_all assigned xs)
      (elim (cases_Bool (assigned x)) [
        | inl has ↦ has
        | inr lacks ↦ (and_parts (assigned x) true (sym (ap (list_all assigned) (lone x lacks)) ∙ both.0)).0
      ])
      (back g lone xs both.1)

  -- what is assigned decomposes to what is
  full_assigned : (compat : Bool) (ys : List ℕ) → IsAssigned v.version ys → list_all assigned (flat_map (full_of v.version compat) ys) ≡ true
  unfolding normal_form decomposed
  full_assigned false ys all =
      sym (order_all (class_of v.version) assigned (flat_map (full_of v.version false) ys)) ∙ assigned-normal_form v.version sound.version Nfd ys all
  full_assigned true ys all =
      sym (order_all (class_of v.version) assigned (flat_map (full_of v.version true) ys)) ∙ assigned-normal_form v.version sound.version Nfkd ys all

  pub images_assigned : (compat : Bool) (xs ys : List ℕ) → AreImages v compat xs ys → IsAssigned v.version ys → IsAssigned v.version xs
  images_assigned compat xs ys images all =
      back (last_parts v compat) (lone_last compat) xs (ap (list_all assigned) (sym images.parts) ∙ full_assigned compat ys all)
