-- A form under a version is its own form under each version that it extends.
use Rattle.std.proofs.Common.{◌≡◌, ℕ, ◌≤◌, ◌⊎◌, Bool, true, false, List, [], ◌∷◌, ◌++◌, flat_map, Option, Some, None, is_some, refl, sym, ap, ap₂, subst, ◌∙◌, arith, inl, inr, append_assoc, append-nil}
use Rattle.std.proofs.lemmas.Bool.{cases_Bool, cases_lt, and_parts, and_from, both_ways, true_from_ne_false}
use Rattle.std.proofs.lemmas.Grind.{flat_map-append}
use Rattle.std.specs.List.{list_all}
use Rattle.np_versions.specs.Versions.{VersionData, entry_at, class_in, is_empty, is_assigned, class_of}
use Rattle.np_ucd.specs.Entries.{Entry}
use Rattle.np_versions.specs.Mappings.{is_final}
use Rattle.np_versions.specs.inside.FullDecompositions.{full_of}
use Rattle.np_forms.specs.Order.{is_ordered}
use Rattle.np_forms.specs.inside.CanonicalOrder.{canonical_order}
use Rattle.np_forms.specs.inside.Composing.{compose_after, compose, compose_of}
use Rattle.np_versions.specs.inside.CompositeSearch.{composite}
use Rattle.np_versions.specs.Conditions.{IsSound}
use Rattle.np_chain.specs.Extension.{Extends}
use Rattle.np_forms.specs.Assigned.{IsAssigned}
use Rattle.np_forms.specs.Forms.{IsNormalForm}
use Rattle.np_code_points.specs.Forms.{is_compat, composes}
use Rattle.np_code_points.specs.declared.forms.Form.{Form}
use Rattle.np_forms.specs.inside.NormalForms.{decomposed, ended, normal_form}
use Rattle.np_chain.specs.Laws.{Backward}
use Rattle.np_versions.proofs.MappingLemmas.{parts-cases, full_of-final, list_all-append}
use Rattle.np_forms.proofs.OrderLemmas.{canonical_order-at_starter, is_ordered-back, is_ordered-front}
use Rattle.np_forms.proofs.ComposeLemmas.{joined-none, compose-at_boundary, compose_after-nil, compose_after-starter, compose_after-kept, compose-nil, compose-starter, compose-non_starter}
use Rattle.np_versions.proofs.CompositeLemmas.{cases_Option, mapped-assigned, composite-some}
use Rattle.np_forms.proofs.FormLemmas.{IsNormalForm-normal_form, normal_form_is}
use Rattle.np_forms.proofs.FormLemmas.{is_ordered-decomposed, all_final, decomposed-final, decomposed-composed, normal_form-twice}
use Rattle.np_chain.proofs.StabilityLemmas.{normal_form-same}
use Rattle.np_forms.proofs.StreamLemmas.{list_all-back, compose_of_is}
use Rattle.np_forms.proofs.TextLemmas.{list_all-front}
use Rattle.np_forms.proofs.CutLemmas.{front_of, back_of}

-- ---- a piece of a form is a form

-- what an ordered text without mappings ends as
record IsEnding (v : VersionData) (e compat : Bool) (xs : List ℕ) : Type 0 where
  source : List ℕ
  gives : ended v e source ≡ xs
  all : list_all (is_final v compat) source ≡ true
  ordered : is_ordered (class_of v) source ≡ true

module _ (v : VersionData) (sound : IsSound v) where
  IsEnding-form : (form : Form) (xs : List ℕ) → normal_form v form xs ≡ xs → IsEnding v (composes form) (is_compat form) xs
  unfolding normal_form
  IsEnding-form form xs own =
      record { source = decomposed v (is_compat form) xs; gives = own; all = all_final v sound (is_compat form) xs; ordered = is_ordered-decomposed v sound (is_compat form) xs }

  decomposed_ending : (e compat : Bool) (ds xs : List ℕ) → ended v e ds ≡ xs → list_all (is_final v compat) ds ≡ true → is_ordered (class_of v) ds ≡ true → decomposed v compat xs ≡ ds
  decomposed_ending true compat ds xs gives all ordered = ap (decomposed v compat) (sym gives) ∙ decomposed-composed v sound compat ds all ordered
  decomposed_ending false compat ds xs gives all ordered = ap (decomposed v compat) (sym gives) ∙ decomposed-final v sound compat ds all ordered

  own_form : (form : Form) (xs : List ℕ) → IsEnding v (composes form) (is_compat form) xs → normal_form v form xs ≡ xs
  unfolding normal_form
  own_form form xs r = ap (ended v (composes form)) (decomposed_ending (composes form) (is_compat form) r.source xs r.gives r.all r.ordered) ∙ r.gives

  ending_front : (e compat : Bool) (xs ys : List ℕ) → IsEnding v e compat (xs ++ ys) → IsEnding v e compat xs
  ending_front true compat xs ys r =
      let p = front_of (class_of v) (composite v) (is_final v compat) [] r.source xs ys (sym (compose_of_is v sound r.source) ∙ r.gives) r.all r.ordered in
      record { source = p.left; gives = compose_of_is v sound p.left ∙ p.gives; all = p.all; ordered = p.ordered }
  ending_front false compat xs ys r =
      record {
        source = xs;
        gives = refl;
        all = list_all-front (is_final v compat) xs ys (ap (list_all (is_final v compat)) (sym r.gives) ∙ r.all);
        ordered = is_ordered-front (class_of v) xs ys (ap (is_ordered (class_of v)) (sym r.gives) ∙ r.ordered);
      }

  ending_back : (e compat : Bool) (xs ys : List ℕ) → IsEnding v e compat (xs ++ ys) → IsEnding v e compat ys
  ending_back true compat xs ys r =
      let p = back_of (class_of v) (composite v) (is_final v compat) r.source xs ys (sym (compose_of_is v sound r.source) ∙ r.gives) r.all r.ordered in
      record { source = p.left; gives = compose_of_is v sound p.left ∙ p.gives; all = p.all; ordered = p.ordered }
  ending_back false compat xs ys r =
      record {
        source = ys;
        gives = refl;
        all = list_all-back (is_final v compat) xs ys (ap (list_all (is_final v compat)) (sym r.gives) ∙ r.all);
        ordered = is_ordered-back (class_of v) xs ys (ap (is_ordered (class_of v)) (sym r.gives) ∙ r.ordered);
      }

  pub own_form-front : (form : Form) (xs ys : List ℕ) → normal_form v form (xs ++ ys) ≡ xs ++ ys → normal_form v form xs ≡ xs
  own_form-front form xs ys own = own_form form xs (ending_front (composes form) (is_compat form) xs ys (IsEnding-form form (xs ++ ys) own))

  pub own_form-back : (form : Form) (xs ys : List ℕ) → normal_form v form (xs ++ ys) ≡ xs ++ ys → normal_form v form ys ≡ ys
  own_form-back form xs ys own = own_form form ys (ending_back (composes form) (is_compat form) xs ys (IsEnding-form form (xs ++ ys) own))

  -- ---- what is not assigned stands alone

  class_out : (o : Option Entry) → is_some o ≡ false → class_in o ≡ 0
  class_out None h = refl
  class_out (Some e) h = cc

  lacks-class : (c : ℕ) → is_assigned v c ≡ false → class_of v c ≡ 0
  unfolding class_of is_assigned
  lacks-class c h = class_out (entry_at v.entries c) h

  lacks-final : (compat : Bool) (c : ℕ) → is_assigned v c ≡ false → is_final v compat c ≡ true
  lacks-final compat c h =
      parts-cases v compat (λ l. is_empty l ≡ true) refl c
      (true_from_ne_false _ (λ some. both_ways _ h (mapped-assigned v c some)))

  never_made : (a b p : ℕ) → (is_assigned v a ≡ false) ⊎ (is_assigned v b ≡ false) → composite v a b ≡ Some p → ⊥
  never_made a b p lacks h =
      let is = composite-some v a b p h in
      let both = sym (ap (list_all (is_assigned v)) is.mapping) ∙ sound.maps_to_assigned p in
      let halves = and_parts (is_assigned v a) (list_all (is_assigned v) (b ∷ [])) both in
      elim lacks [
        | inl first ↦ both_ways _ first halves.0
        | inr second ↦ both_ways _ second (and_parts (is_assigned v b) true halves.1).0
      ]

  no_composite : (a b : ℕ) → (is_assigned v a ≡ false) ⊎ (is_assigned v b ≡ false) → composite v a b ≡ None
  no_composite a b lacks = elim (cases_Option (composite v a b)) [ inl none ↦ none | inr some ↦ absurd (never_made a b some.0 lacks some.1) ]

  compose_after-never_first : (s : ℕ) (bs cs : List ℕ) → ((b : ℕ) → composite v s b ≡ None) → compose_after (class_of v) (composite v) s bs cs ≡ s ∷ (bs ++ compose (class_of v) (composite v) cs)
  compose_after-never_first s bs [] never =
      compose_after-nil (class_of v) (composite v) s bs ∙ ap (λ l. s ∷ l) (sym (append-nil bs) ∙ ap (λ l. bs ++ l) (sym (compose-nil (class_of v) (composite v))))
  compose_after-never_first s bs (c ∷ cs) never =
      let none = joined-none (class_of v) (composite v) s bs c (never c) in
      elim (cases_lt 0 (class_of v c)) [
        | inl non_starter ↦
            compose_after-kept (class_of v) (composite v) s bs c cs none non_starter ∙ compose_after-never_first s (bs ++ c ∷ []) cs never
            ∙ ap (λ l. s ∷ l) (append_assoc bs (c ∷ []) (compose (class_of v) (composite v) cs) ∙ ap (λ l. bs ++ l) (sym (compose-non_starter (class_of v) (composite v) c cs non_starter)))
        | inr starter ↦
            compose_after-starter (class_of v) (composite v) s bs c cs none starter ∙ ap (λ l. s ∷ (bs ++ l)) (sym (compose-starter (class_of v) (composite v) c cs starter))
      ]

  decomposed-at_lacking : (compat : Bool) (us : List ℕ) (c : ℕ) (ws : List ℕ) → is_assigned v c ≡ false → decomposed v compat (us ++ c ∷ ws) ≡ decomposed v compat us ++ c ∷ decomposed v compat ws
  unfolding decomposed
  decomposed-at_lacking compat us c ws lacks =
      let f = full_of v compat in
      let starter : class_of v c ≤ 0 = (let e = lacks-class c lacks in omega arith) in
      ap (canonical_order (class_of v))
      (flat_map-append f us (c ∷ ws) ∙ ap (λ l. flat_map f us ++ (l ++ flat_map f ws)) (full_of-final v compat sound.shallow c (lacks-final compat c lacks)))
      ∙ canonical_order-at_starter (class_of v) (flat_map f us) c (flat_map f ws) starter

  ended-at_lacking : (e : Bool) (us : List ℕ) (c : ℕ) (ws : List ℕ) → is_assigned v c ≡ false → ended v e (us ++ c ∷ ws) ≡ ended v e us ++ c ∷ ended v e ws
  unfolding compose_of
  ended-at_lacking false us c ws lacks = refl
  ended-at_lacking true us c ws lacks =
      let starter : class_of v c ≤ 0 = (let e = lacks-class c lacks in omega arith) in
      compose-at_boundary (class_of v) (composite v) us c ws starter (λ a. no_composite a c (inr lacks))
      ∙ ap (λ l. compose (class_of v) (composite v) us ++ l)
      (compose-starter (class_of v) (composite v) c ws starter ∙ compose_after-never_first c [] ws (λ b. no_composite c b (inl lacks)))

  pub normal_form-at_lacking : (form : Form) (us : List ℕ) (c : ℕ) (ws : List ℕ) → is_assigned v c ≡ false → normal_form v form (us ++ c ∷ ws) ≡ normal_form v form us ++ c ∷ normal_form v form ws
  unfolding normal_form
  normal_form-at_lacking form us c ws lacks =
      ap (ended v (composes form)) (decomposed-at_lacking (is_compat form) us c ws lacks) ∙ ended-at_lacking (composes form) _ c _ lacks

-- ---- backward

module _ (a b : VersionData) (sound_a : IsSound a) (sound_b : IsSound b) (ext : Extends a b) (form : Form) where
  own_under : (us rest : List ℕ) → IsAssigned a us → normal_form b form (us ++ rest) ≡ us ++ rest → normal_form a form (us ++ rest) ≡ us ++ rest
  own_under us [] all own =
      let whole : IsAssigned a (us ++ []) = ap (list_all (is_assigned a)) (append-nil us) ∙ all in
      normal_form-same a b sound_a sound_b ext form (us ++ []) whole ∙ own
  own_under us (c ∷ rest) all own =
      elim (cases_Bool (is_assigned a c)) [
        | inl has ↦
            let same = append_assoc us (c ∷ []) rest in
            let moved = own_under (us ++ c ∷ []) rest (list_all-append (is_assigned a) us (c ∷ []) all (and_from _ _ has refl)) (ap (normal_form b form) same ∙ own ∙ sym same) in
            ap (normal_form a form) (sym same) ∙ moved ∙ same
        | inr lacks ↦
            let front = normal_form-same a b sound_a sound_b ext form us all ∙ own_form-front b sound_b form us (c ∷ rest) own in
            let of_rest = own_form-back b sound_b form (us ++ c ∷ []) rest (ap (normal_form b form) (append_assoc us (c ∷ []) rest) ∙ own ∙ sym (append_assoc us (c ∷ []) rest)) in
            normal_form-at_lacking a sound_a form us c rest lacks ∙ ap₂ (λ l m. l ++ c ∷ m) front (own_under [] rest refl of_rest)
      ]

pub backward : Backward
backward a b form xs ys sound_a sound_b ext all is =
    let same = normal_form_is b sound_b form xs ys is in
    let own_b : normal_form b form ys ≡ ys = ap (normal_form b form) same ∙ normal_form-twice b sound_b form xs ∙ sym same in
    let own_a = own_under a b sound_a sound_b ext form [] ys refl own_b in
    subst (λ l. IsNormalForm a form ys l) own_a (IsNormalForm-normal_form a sound_a form ys)
