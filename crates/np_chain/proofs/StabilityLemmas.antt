-- Along an extension the forms of what was assigned stay.
use Rattle.std.proofs.Common.{◌≡◌, ℕ, zero, suc, Bool, true, false, ◌&&◌, if◌then◌else◌, List, [], ◌∷◌, ◌++◌, flat_map, Option, Some, None, refl, sym, ap, ap₂, subst, ◌∙◌, arith, inl, inr}
use Rattle.std.proofs.lemmas.Bool.{cond-true, cond-false, cases_Bool, cases_lt, and_parts, and_from}
use Rattle.std.specs.List.{list_all}
use Rattle.np_versions.specs.Versions.{VersionData, is_empty, is_assigned, class_of, decomposition_mapping}
use Rattle.np_ucd.specs.declared.rows.MapKind.{MapKind}
use Rattle.np_versions.specs.Mappings.{counts, parts, is_final}
use Rattle.np_versions.specs.inside.FullDecompositions.{full, full_of}
use Rattle.np_forms.specs.Order.{is_reorderable}
use Rattle.np_forms.specs.inside.CanonicalOrder.{slide, canonical_order}
use Rattle.np_versions.specs.Composites.{IsCompositeOf}
use Rattle.np_forms.specs.inside.Composing.{is_free, joined, compose_after, compose, compose_of}
use Rattle.np_versions.specs.inside.CompositeSearch.{composite}
use Rattle.np_versions.specs.Conditions.{IsSound}
use Rattle.np_chain.specs.Extension.{Extends}
use Rattle.np_forms.specs.Assigned.{IsAssigned}
use Rattle.np_code_points.specs.declared.forms.Form.{Form}
use Rattle.np_code_points.specs.Forms.{is_compat, composes}
use Rattle.np_forms.specs.Forms.{IsNormalForm}
use Rattle.np_forms.specs.inside.NormalForms.{decomposed, ended, normal_form}
use Rattle.np_chain.specs.Laws.{Stability, Transitivity}
use Rattle.np_versions.proofs.MappingLemmas.{list_all-append, parts-cases}
use Rattle.np_forms.proofs.OrderLemmas.{list_all-canonical_order}
use Rattle.np_forms.proofs.ComposeLemmas.{list_all-compose, joined-free, compose_after-cases, compose_after-nil, compose_after-joined, compose_after-starter, compose_after-kept, compose-nil, compose-starter, compose-non_starter}
use Rattle.np_versions.proofs.CompositeLemmas.{cases_Option, primary-assigned, composite-some, composite_from, composite-none, composite-assigned}
use Rattle.np_forms.proofs.FormLemmas.{IsNormalForm-normal_form, normal_form_is}

-- ---- within one version: a test that mappings and composites keep holds of the form

module _ (v : VersionData) (p : ℕ → Bool) (maps : (c : ℕ) → p c ≡ true → list_all p (decomposition_mapping v c) ≡ true) (made : (a b c : ℕ) → p a ≡ true → p b ≡ true → IsCompositeOf v a b c → p c ≡ true) where
  kept-flat_map : (f : ℕ → List ℕ) → ((c : ℕ) → p c ≡ true → list_all p (f c) ≡ true) → (xs : List ℕ) → list_all p xs ≡ true → list_all p (flat_map f xs) ≡ true
  kept-flat_map f each [] all = refl
  kept-flat_map f each (x ∷ xs) all =
      let halves = and_parts (p x) (list_all p xs) all in list_all-append p (f x) (flat_map f xs) (each x halves.0) (kept-flat_map f each xs halves.1)

  kept-full : (compat : Bool) (n c : ℕ) → p c ≡ true → list_all p (full v compat n c) ≡ true
  unfolding full
  kept-full compat zero c h = and_from _ _ h refl
  kept-full compat (suc n) c h =
      elim (cases_Bool (is_final v compat c)) [
        | inl final ↦ ap (list_all p) (cond-true _ _ _ final) ∙ and_from _ _ h refl
        | inr mapped ↦
            ap (list_all p) (cond-false _ _ _ mapped)
            ∙ kept-flat_map (full v compat n) (kept-full compat n) (parts v compat c) (parts-cases v compat (λ l. list_all p l ≡ true) refl c (maps c h))
      ]

  kept-decomposed : (compat : Bool) (xs : List ℕ) → list_all p xs ≡ true → list_all p (decomposed v compat xs) ≡ true
  unfolding decomposed full_of
  kept-decomposed compat xs all = list_all-canonical_order (class_of v) p _ (kept-flat_map (full v compat 32) (kept-full compat 32) xs all)

  kept-ended : (b : Bool) (xs : List ℕ) → list_all p xs ≡ true → list_all p (ended v b xs) ≡ true
  unfolding compose_of
  kept-ended true xs all = list_all-compose (class_of v) (composite v) p p (λ x h. h) (λ a b c of_a of_b h. made a b c of_a of_b (composite-some v a b c h)) xs all
  kept-ended false xs all = all

  pub kept-normal_form : (form : Form) (xs : List ℕ) → list_all p xs ≡ true → list_all p (normal_form v form xs) ≡ true
  unfolding normal_form
  kept-normal_form form xs all = kept-ended (composes form) _ (kept-decomposed (is_compat form) xs all)

module _ (v : VersionData) (sound : IsSound v) where
  assigned-parts : (compat : Bool) (c : ℕ) → list_all (is_assigned v) (parts v compat c) ≡ true
  assigned-parts compat c = parts-cases v compat (λ l. list_all (is_assigned v) l ≡ true) refl c (sound.maps_to_assigned c)

  abbrev made_assigned : (a b c : ℕ) → is_assigned v a ≡ true → is_assigned v b ≡ true → IsCompositeOf v a b c → is_assigned v c ≡ true
  made_assigned a b c _ _ is = composite-assigned v a b c is

  assigned-flat_map_full : (compat : Bool) (xs : List ℕ) → IsAssigned v xs → IsAssigned v (flat_map (full v compat 32) xs)
  assigned-flat_map_full compat xs all =
      kept-flat_map v (is_assigned v) (λ c _. sound.maps_to_assigned c) made_assigned (full v compat 32)
      (kept-full v (is_assigned v) (λ c _. sound.maps_to_assigned c) made_assigned compat 32) xs all

  assigned-decomposed : (compat : Bool) (xs : List ℕ) → IsAssigned v xs → IsAssigned v (decomposed v compat xs)
  assigned-decomposed = kept-decomposed v (is_assigned v) (λ c _. sound.maps_to_assigned c) made_assigned

  pub assigned-normal_form : (form : Form) (xs : List ℕ) → IsAssigned v xs → IsAssigned v (normal_form v form xs)
  assigned-normal_form = kept-normal_form v (is_assigned v) (λ c _. sound.maps_to_assigned c) made_assigned

-- ---- two functions of a code point that agree where a test passes

module _ (p : ℕ → Bool) (f g : ℕ → ℕ) (same : (c : ℕ) → p c ≡ true → f c ≡ g c) where
  is_reorderable-same : (a b : ℕ) → p a ≡ true → p b ≡ true → is_reorderable f a b ≡ is_reorderable g a b
  unfolding is_reorderable
  is_reorderable-same a b of_a of_b = let e = same a of_a in let h = same b of_b in cc

  slide-same : (c : ℕ) (ds : List ℕ) → p c ≡ true → list_all p ds ≡ true → slide f c ds ≡ slide g c ds
  unfolding slide
  slide-same c [] of_c all = refl
  slide-same c (d ∷ ds) of_c all =
      let halves = and_parts (p d) (list_all p ds) all in
      let e = is_reorderable-same c d of_c halves.0 in
      let h = slide-same c ds of_c halves.1 in
      rw (e, h)

  pub canonical_order-same : (cs : List ℕ) → list_all p cs ≡ true → canonical_order f cs ≡ canonical_order g cs
  unfolding canonical_order
  canonical_order-same [] all = refl
  canonical_order-same (c ∷ cs) all =
      let halves = and_parts (p c) (list_all p cs) all in
      slide-same c (canonical_order f cs) halves.0 (list_all-canonical_order f p cs halves.1) ∙ ap (slide g c) (canonical_order-same cs halves.1)

  is_free-same : (bs : List ℕ) (c : ℕ) → list_all p bs ≡ true → p c ≡ true → is_free f bs c ≡ is_free g bs c
  is_free-same [] c all of_c = refl
  is_free-same (b ∷ bs) c all of_c =
      let halves = and_parts (p b) (list_all p bs) all in ap₂ (λ x y. x && y) (is_reorderable-same c b of_c halves.0) (is_free-same bs c halves.1 of_c)

  module _ (j k : ℕ → ℕ → Option ℕ) (same_join : (a b : ℕ) → p a ≡ true → p b ≡ true → j a b ≡ k a b) (made : (a b c : ℕ) → p a ≡ true → p b ≡ true → j a b ≡ Some c → p c ≡ true) where
    joined-same : (s : ℕ) (bs : List ℕ) (c : ℕ) → p s ≡ true → list_all p bs ≡ true → p c ≡ true → joined f j s bs c ≡ joined g k s bs c
    unfolding joined
    joined-same s bs c of_s of_bs of_c =
        ap₂ (λ (b : Bool) (o : Option ℕ). if b then o else None) (is_free-same bs c of_bs of_c) (same_join s c of_s of_c)

    compose_after-same : (s : ℕ) (bs cs : List ℕ) → p s ≡ true → list_all p bs ≡ true → list_all p cs ≡ true → compose_after f j s bs cs ≡ compose_after g k s bs cs
    compose_after-same s bs [] of_s of_bs of_cs = compose_after-nil f j s bs ∙ sym (compose_after-nil g k s bs)
    compose_after-same s bs (c ∷ cs) of_s of_bs of_cs =
        let halves = and_parts (p c) (list_all p cs) of_cs in
        let e = same c halves.0 in
        let one = joined-same s bs c of_s of_bs halves.0 in
        compose_after-cases f j s bs c cs (λ l. l ≡ compose_after g k s bs (c ∷ cs))
        (λ q free both.
        compose_after-same q bs cs (made s c q of_s halves.0 both) of_bs halves.1
        ∙ sym (compose_after-joined g k s bs c q cs (sym one ∙ joined-free f j s bs c free ∙ both)))
        (λ none first.
        ap (λ l. s ∷ (bs ++ l)) (compose_after-same c [] cs halves.0 refl halves.1)
        ∙ sym (compose_after-starter g k s bs c cs (sym one ∙ none) (omega arith)))
        (λ none non_starter.
        compose_after-same s (bs ++ c ∷ []) cs of_s (list_all-append p bs (c ∷ []) of_bs (and_from _ _ halves.0 refl)) halves.1
        ∙ sym (compose_after-kept g k s bs c cs (sym one ∙ none) (omega arith)))

    pub compose-same : (cs : List ℕ) → list_all p cs ≡ true → compose f j cs ≡ compose g k cs
    compose-same [] all = compose-nil f j ∙ sym (compose-nil g k)
    compose-same (c ∷ cs) all =
        let halves = and_parts (p c) (list_all p cs) all in
        let e = same c halves.0 in
        elim (cases_lt 0 (f c)) [
          | inl non_starter ↦
              compose-non_starter f j c cs non_starter ∙ ap (λ l. c ∷ l) (compose-same cs halves.1) ∙ sym (compose-non_starter g k c cs (omega arith))
          | inr first ↦
              compose-starter f j c cs first ∙ compose_after-same c [] cs halves.0 refl halves.1 ∙ sym (compose-starter g k c cs (omega arith))
        ]

-- ---- along an extension

module _ (a b : VersionData) (sound_a : IsSound a) (sound_b : IsSound b) (ext : Extends a b) where
  pub parts-same : (compat : Bool) (c : ℕ) → is_assigned a c ≡ true → parts a compat c ≡ parts b compat c
  unfolding parts
  parts-same compat c h =
      let kept = ext.keeps c h in
      ap₂ (λ (k : MapKind) (l : List ℕ). if counts compat k then l else []) (sym kept.kind) (sym kept.mapping)

  flat_map-same_on : (f g : ℕ → List ℕ) → ((c : ℕ) → is_assigned a c ≡ true → f c ≡ g c) → (xs : List ℕ) → IsAssigned a xs → flat_map f xs ≡ flat_map g xs
  flat_map-same_on f g same [] all = refl
  flat_map-same_on f g same (x ∷ xs) all =
      let halves = and_parts (is_assigned a x) (list_all (is_assigned a) xs) all in
      ap₂ (λ l m. l ++ m) (same x halves.0) (flat_map-same_on f g same xs halves.1)

  full-same : (compat : Bool) (n c : ℕ) → is_assigned a c ≡ true → full a compat n c ≡ full b compat n c
  unfolding full
  full-same compat zero c h = refl
  full-same compat (suc n) c h =
      let same = parts-same compat c h in
      elim (cases_Bool (is_final a compat c)) [
        | inl final ↦ cond-true _ _ _ final ∙ sym (cond-true _ _ _ (sym (ap is_empty same) ∙ final))
        | inr mapped ↦
            cond-false _ _ _ mapped
            ∙ flat_map-same_on (full a compat n) (full b compat n) (full-same compat n) (parts a compat c) (assigned-parts a sound_a compat c)
            ∙ ap (flat_map (full b compat n)) same ∙ sym (cond-false _ _ _ (sym (ap is_empty same) ∙ mapped))
      ]

  class-same : (c : ℕ) → is_assigned a c ≡ true → class_of a c ≡ class_of b c
  class-same c h = sym (ext.keeps c h).class

  pub decomposed-same : (compat : Bool) (xs : List ℕ) → IsAssigned a xs → decomposed a compat xs ≡ decomposed b compat xs
  unfolding decomposed full_of
  decomposed-same compat xs all =
      canonical_order-same (is_assigned a) (class_of a) (class_of b) class-same _ (assigned-flat_map_full a sound_a compat xs all)
      ∙ ap (canonical_order (class_of b)) (flat_map-same_on (full a compat 32) (full b compat 32) (full-same compat 32) xs all)

  pub composite-same : (x y : ℕ) → is_assigned a x ≡ true → is_assigned a y ≡ true → composite a x y ≡ composite b x y
  composite-same x y of_x of_y =
      elim (cases_Option (composite a x y)) [
        | inr some ↦
            let is = composite-some a x y some.0 some.1 in
            let kept = ext.keeps some.0 (composite-assigned a x y some.0 is) in
            some.1 ∙ sym (composite_from b sound_b x y some.0 (record { primary = ext.old_composites some.0 is.primary; mapping = kept.mapping ∙ is.mapping }))
        | inl none ↦
            elim (cases_Option (composite b x y)) [
              | inl too ↦ none ∙ sym too
              | inr some ↦
                  let is = composite-some b x y some.0 some.1 in
                  let primary = ext.new_composites some.0 is.primary (ap (list_all (is_assigned a)) is.mapping ∙ and_from _ _ of_x (and_from _ _ of_y refl)) in
                  let kept = ext.keeps some.0 (primary-assigned a some.0 primary) in
                  absurd (composite-none a sound_a x y some.0 none (record { primary = primary; mapping = sym kept.mapping ∙ is.mapping }))
            ]
      ]

  compose_of-same : (xs : List ℕ) → IsAssigned a xs → compose_of a xs ≡ compose_of b xs
  unfolding compose_of
  compose_of-same xs all =
      compose-same (is_assigned a) (class_of a) (class_of b) class-same (composite a) (composite b) composite-same
      (λ x y c _ _ h. composite-assigned a x y c (composite-some a x y c h)) xs all

  ended-same : (e : Bool) (xs : List ℕ) → IsAssigned a xs → ended a e xs ≡ ended b e xs
  ended-same true xs all = compose_of-same xs all
  ended-same false xs all = refl

  pub normal_form-same : (form : Form) (xs : List ℕ) → IsAssigned a xs → normal_form a form xs ≡ normal_form b form xs
  unfolding normal_form
  normal_form-same form xs all =
      ended-same (composes form) _ (assigned-decomposed a sound_a (is_compat form) xs all)
      ∙ ap (ended b (composes form)) (decomposed-same (is_compat form) xs all)

pub list_all-mono : (p q : ℕ → Bool) → ((x : ℕ) → p x ≡ true → q x ≡ true) → (xs : List ℕ) → list_all p xs ≡ true → list_all q xs ≡ true
list_all-mono p q h [] all = refl
list_all-mono p q h (x ∷ xs) all =
    let halves = and_parts (p x) (list_all p xs) all in and_from _ _ (h x halves.0) (list_all-mono p q h xs halves.1)

pub stability : Stability
stability a b form xs ys sound_a sound_b ext all is =
    let same = normal_form_is a sound_a form xs ys is in
    let other : normal_form b form xs ≡ ys = sym (normal_form-same a b sound_a sound_b ext form xs all) ∙ sym same in
    (subst (λ l. IsNormalForm b form xs l) other (IsNormalForm-normal_form b sound_b form xs), ap (list_all (is_assigned a)) same ∙ assigned-normal_form a sound_a form xs all, list_all-mono (is_assigned a) (is_assigned b) (λ c h. (ext.keeps c h).assigned) xs all)

-- ---- extension goes on

pub transitivity : Transitivity
transitivity a b c first second =
    record {
      keeps = λ x h.
          let one = first.keeps x h in
          let two = second.keeps x one.assigned in
          record { assigned = two.assigned; class = two.class ∙ one.class; kind = two.kind ∙ one.kind; mapping = two.mapping ∙ one.mapping };
      old_composites = λ x h. second.old_composites x (first.old_composites x h);
      new_composites = λ x primary all.
          let in_b = second.new_composites x primary (list_all-mono (is_assigned a) (is_assigned b) (λ y h. (first.keeps y h).assigned) (decomposition_mapping c x) all) in
          let same = (second.keeps x (primary-assigned b x in_b)).mapping in
          first.new_composites x in_b (ap (list_all (is_assigned a)) (sym same) ∙ all);
    }
