-- More text changes a normal form from its last starter on alone.
use Rattle.std.proofs.Common.{◌≡◌, ℕ, ◌<◌, ◌≤◌, ◌⊎◌, Bool, true, false, List, [], ◌∷◌, ◌++◌, flat_map, Option, refl, sym, ap, ap₂, subst, ◌∙◌, arith, inl, inr, append_assoc, None, append-nil, MatchBool}
use Rattle.np_forms.proofs.Words.{cases_lt, and_parts, and_from, not-true, not_from_false, eqb-false, flat_map-append, list_all, VersionData, class_of}
use Rattle.np_forms.proofs.Words.{is_final, full_of, is_ordered, canonical_order, composite, joined, compose_after, compose, compose_of, IsSound, Form}
use Rattle.np_forms.proofs.Words.{is_compat, composes, decomposed, ended, normal_form, is_non_starter, IsNormalForm, BeginsAtLastStarter, HasNoStarter}
use Rattle.np_forms.proofs.Words.{IsBoundary, NeverFalls, ComposesTo, IsYesStarter}
use Rattle.np_forms.specs.StreamLaws.{OneMore}
use Rattle.np_versions.proofs.MappingLemmas.{list_all-append, full_decomposition-flat_map}
use Rattle.np_versions.proofs.CompositeLemmas.{cases_Option, composite-starter, composite-never, composite_from}
use Rattle.np_forms.specs.Boundaries.{FormsAtBoundary, YesStarterForm}
use Rattle.np_forms.proofs.OrderLemmas.{canonical_order-front, canonical_order-at_starter, canonical_order-ordered, is_ordered-front, is_ordered-back, canonical_order-nil, is_ordered-cons, is_ordered-nil, is_ordered-one, not_reorderable_rising}
use Rattle.np_forms.proofs.ComposeLemmas.{not_starter_from, compose_after-nil, compose_after-joined, compose_after-starter, compose_after-kept, compose-nil, compose-starter, compose-non_starter, joined-some, compose-at_boundary, joined-free}
use Rattle.np_forms.proofs.FormLemmas.{IsNormalForm-normal_form, normal_form_is}
pub use Rattle.np_forms.proofs.TextLemmas.{list_all-back}
use Rattle.np_forms.proofs.FormLemmas.{is_ordered-decomposed, all_final, decomposed-final, decomposed-composed, decomposed-normal_form}

module _ (v : VersionData) (sound : IsSound v) where
  abbrev ccc : ℕ → ℕ
  ccc = class_of v

  abbrev join : ℕ → ℕ → Option ℕ
  join = composite v

  non_starter_from : (c : ℕ) → 0 < class_of v c → is_non_starter v c ≡ true
  non_starter_from c h = not_from_false _ (not_starter_from ccc c h)

  -- ---- the last starter that composition writes

  -- a starter and non-starters
  abbrev pub IsLastRun : List ℕ → Type 0
  IsLastRun = BeginsAtLastStarter v []

  -- what `f` makes of cs comes from `rest` on at last, whatever follows
  pub record LastFrom (f : List ℕ → List ℕ) (cs : List ℕ) : Type 0 where
    pub front : List ℕ
    pub first : ℕ
    pub rest : List ℕ
    pub out : List ℕ
    pub split : cs ≡ front ++ first ∷ rest
    pub starter : class_of v first ≤ 0
    pub goes_on : (zs : List ℕ) → f (front ++ first ∷ zs) ≡ out ++ compose_after ccc join first [] zs
    pub last : IsLastRun (compose_after ccc join first [] rest)

  -- it does so behind one code point more
  last_further : (f g : List ℕ → List ℕ) (before : List ℕ) (c : ℕ) (cs : List ℕ) → ((zs : List ℕ) → f (c ∷ zs) ≡ before ++ g zs) → LastFrom g cs → LastFrom f (c ∷ cs)
  last_further f g before c cs goes part =
      record {
        front = c ∷ part.front;
        first = part.first;
        rest = part.rest;
        out = before ++ part.out;
        split = ap (λ l. c ∷ l) part.split;
        starter = part.starter;
        goes_on = λ zs. goes (part.front ++ part.first ∷ zs) ∙ ap (λ l. before ++ l) (part.goes_on zs) ∙ sym (append_assoc before part.out _);
        last = part.last;
      }

  -- it does so from a starter on
  last_from : (f : List ℕ → List ℕ) (before : List ℕ) (c : ℕ) (cs : List ℕ) → class_of v c ≤ 0 → ((zs : List ℕ) → f (c ∷ zs) ≡ before ++ compose_after ccc join c [] zs) → IsLastRun (compose_after ccc join c [] cs) ⊎ LastFrom (compose_after ccc join c []) cs → LastFrom f (c ∷ cs)
  last_from f before c cs starts goes last =
      elim last [
        | inl whole ↦ record { front = []; first = c; rest = cs; out = before; split = refl; starter = starts; goes_on = goes; last = whole }
        | inr part ↦ last_further f (compose_after ccc join c []) before c cs goes part
      ]

  pub last_after : (s : ℕ) (bs cs : List ℕ) → class_of v s ≤ 0 → list_all (is_non_starter v) bs ≡ true → IsLastRun (compose_after ccc join s bs cs) ⊎ LastFrom (compose_after ccc join s bs) cs
  last_after s bs [] starter non_starters =
      inl (record { s = s; ms = bs; split = compose_after-nil ccc join s bs; starter = omega arith; non_starters = non_starters })
  last_after s bs (c ∷ cs) starter non_starters =
      elim (cases_Option (joined ccc join s bs c)) [
        | inr some ↦
            let goes = λ (zs : List ℕ). compose_after-joined ccc join s bs c some.0 zs some.1 in
            let both = (joined-some ccc join s bs c some.0 some.1).1 in
            elim (last_after some.0 bs cs (let e = composite-starter v sound s c some.0 both in omega arith) non_starters) [
              | inl whole ↦ inl (subst IsLastRun (sym (goes cs)) whole)
              | inr part ↦ inr (last_further (compose_after ccc join s bs) (compose_after ccc join some.0 bs) [] c cs goes part)
            ]
        | inl none ↦
            elim (cases_lt 0 (class_of v c)) [
              | inl non_starter ↦
                  let goes = λ (zs : List ℕ). compose_after-kept ccc join s bs c zs none non_starter in
                  elim (last_after s (bs ++ c ∷ []) cs starter (list_all-append (is_non_starter v) bs (c ∷ []) non_starters (and_from _ _ (non_starter_from c non_starter) refl))) [
                    | inl whole ↦ inl (subst IsLastRun (sym (goes cs)) whole)
                    | inr part ↦ inr (last_further (compose_after ccc join s bs) (compose_after ccc join s (bs ++ c ∷ [])) [] c cs goes part)
                  ]
              | inr starts ↦
                  inr (last_from (compose_after ccc join s bs) (s ∷ bs) c cs starts (λ zs. compose_after-starter ccc join s bs c zs none starts) (last_after c [] cs starts refl))
            ]
      ]

  last_part : (ds : List ℕ) → (list_all (is_non_starter v) (compose ccc join ds) ≡ true) ⊎ LastFrom (compose ccc join) ds
  last_part [] = inl (ap (list_all (is_non_starter v)) (compose-nil ccc join))
  last_part (c ∷ cs) =
      elim (cases_lt 0 (class_of v c)) [
        | inl non_starter ↦
            let goes = λ (zs : List ℕ). compose-non_starter ccc join c zs non_starter in
            elim (last_part cs) [
              | inl none ↦ inl (ap (list_all (is_non_starter v)) (goes cs) ∙ and_from _ _ (non_starter_from c non_starter) none)
              | inr part ↦ inr (last_further (compose ccc join) (compose ccc join) (c ∷ []) c cs goes part)
            ]
        | inr starts ↦ inr (last_from (compose ccc join) [] c cs starts (λ zs. compose-starter ccc join c zs starts) (last_after c [] cs starts refl))
      ]

  -- ---- the last starter is one place

  pub non_starter_or_starter : (s : ℕ) (xs : List ℕ) (ms : List ℕ) → class_of v s ≡ 0 → list_all (is_non_starter v) (xs ++ s ∷ ms) ≡ true → ⊥
  non_starter_or_starter s xs ms starter h =
      eqb-false (ccc s) 0 (not-true _ (and_parts (is_non_starter v s) (list_all (is_non_starter v) ms) (list_all-back (is_non_starter v) xs (s ∷ ms) h)).0) starter

  one_last : (xs ys : List ℕ) (s t : ℕ) (ms ns : List ℕ) → xs ++ s ∷ ms ≡ ys ++ t ∷ ns → class_of v s ≡ 0 → class_of v t ≡ 0 → list_all (is_non_starter v) ms ≡ true → list_all (is_non_starter v) ns ≡ true → (xs ≡ ys) × (s ∷ ms ≡ t ∷ ns)
  one_last [] [] s t ms ns e of_s of_t all_m all_n = (refl, e)
  one_last [] (y ∷ ys) s t ms ns e of_s of_t all_m all_n =
      let rest : ms ≡ ys ++ t ∷ ns = cc in absurd (non_starter_or_starter t ys ns of_t (sym (ap (list_all (is_non_starter v)) rest) ∙ all_m))
  one_last (x ∷ xs) [] s t ms ns e of_s of_t all_m all_n =
      let rest : xs ++ s ∷ ms ≡ ns = cc in absurd (non_starter_or_starter s xs ms of_s (ap (list_all (is_non_starter v)) rest ∙ all_n))
  one_last (x ∷ xs) (y ∷ ys) s t ms ns e of_s of_t all_m all_n =
      let rest : xs ++ s ∷ ms ≡ ys ++ t ∷ ns = cc in
      let head : x ≡ y = cc in
      let later = one_last xs ys s t ms ns rest of_s of_t all_m all_n in
      (ap₂ (λ z zs. z ∷ zs) head later.0, later.1)

  -- ---- a first part may be normalized first

  pub decomposed-front : (compat : Bool) (xs zs : List ℕ) → decomposed v compat (xs ++ zs) ≡ canonical_order ccc (decomposed v compat xs ++ flat_map (full_of v compat) zs)
  unfolding decomposed
  decomposed-front compat xs zs =
      ap (canonical_order ccc) (flat_map-append (full_of v compat) xs zs) ∙ sym (canonical_order-front ccc (flat_map (full_of v compat) xs) (flat_map (full_of v compat) zs))

  pub normal_form-front : (form : Form) (xs zs : List ℕ) → normal_form v form (normal_form v form xs ++ zs) ≡ normal_form v form (xs ++ zs)
  unfolding normal_form
  normal_form-front form xs zs =
      let compat = is_compat form in
      ap (ended v (composes form))
      (decomposed-front compat (ended v (composes form) (decomposed v compat xs)) zs
      ∙ ap (λ l. canonical_order ccc (l ++ flat_map (full_of v compat) zs)) (decomposed-normal_form v sound form xs)
      ∙ sym (decomposed-front compat xs zs))

  -- a starter in an ordered text parts the order of what follows
  order_parts : (xs : List ℕ) (s : ℕ) (ms zs : List ℕ) → is_ordered ccc (xs ++ s ∷ ms) ≡ true → class_of v s ≤ 0 → canonical_order ccc ((xs ++ s ∷ ms) ++ zs) ≡ xs ++ s ∷ canonical_order ccc (ms ++ zs)
  order_parts xs s ms zs ordered starter =
      ap (canonical_order ccc) (append_assoc xs (s ∷ ms) zs) ∙ canonical_order-at_starter ccc xs s (ms ++ zs) starter
      ∙ ap (λ l. l ++ s ∷ canonical_order ccc (ms ++ zs)) (canonical_order-ordered ccc xs (is_ordered-front ccc xs (s ∷ ms) ordered))

  pub compose_of_is : (xs : List ℕ) → compose_of v xs ≡ compose ccc join xs
  unfolding compose_of
  compose_of_is xs = refl

  more_composed : (compat : Bool) (ds x : List ℕ) (s : ℕ) (ms fs : List ℕ) → is_ordered ccc ds ≡ true → list_all (is_final v compat) ds ≡ true → compose ccc join ds ≡ x ++ s ∷ ms → class_of v s ≡ 0 → list_all (is_non_starter v) ms ≡ true → (part : LastFrom (compose ccc join) ds) → compose ccc join (canonical_order ccc (ds ++ fs)) ≡ x ++ compose ccc join (canonical_order ccc (decomposed v compat (s ∷ ms) ++ fs))
  more_composed compat ds x s ms fs ordered final is starter non_starters part =
      let tail = part.first ∷ part.rest in
      let ends = sym (ap (λ l. part.out ++ l) part.last.split) ∙ sym (ap (compose ccc join) part.split ∙ part.goes_on part.rest) ∙ is in
      let same = one_last part.out x part.last.s s part.last.ms ms ends part.last.starter starter part.last.non_starters non_starters in
      let ordered_is = ap (is_ordered ccc) (sym part.split) ∙ ordered in
      let final_is = ap (list_all (is_final v compat)) (sym part.split) ∙ final in
      let ordered_tail = is_ordered-back ccc part.front tail ordered_is in
      let final_tail = list_all-back (is_final v compat) part.front tail final_is in
      let later = canonical_order ccc (part.rest ++ fs) in
      let composed_tail = compose_of_is tail ∙ compose-starter ccc join part.first part.rest part.starter ∙ part.last.split ∙ same.1 in
      let left = ap (compose ccc join) (ap (λ l. canonical_order ccc (l ++ fs)) part.split ∙ order_parts part.front part.first part.rest fs ordered_is part.starter)
      ∙ part.goes_on later ∙ ap (λ l. l ++ compose_after ccc join part.first [] later) same.0 in
      let of_tail : decomposed v compat (s ∷ ms) ≡ tail =
      ap (decomposed v compat) (sym composed_tail) ∙ decomposed-composed v sound compat tail final_tail ordered_tail in
      let right = ap (λ l. compose ccc join (canonical_order ccc (l ++ fs))) of_tail
      ∙ ap (compose ccc join) (order_parts [] part.first part.rest fs ordered_tail part.starter) ∙ compose-starter ccc join part.first later part.starter in
      left ∙ ap (λ l. x ++ l) (sym right)

  -- the form ends as `ended e` of the decomposition ds
  more_text : (e compat : Bool) (ds x : List ℕ) (s : ℕ) (ms fs : List ℕ) → is_ordered ccc ds ≡ true → list_all (is_final v compat) ds ≡ true → ended v e ds ≡ x ++ s ∷ ms → class_of v s ≡ 0 → list_all (is_non_starter v) ms ≡ true → ended v e (canonical_order ccc (ds ++ fs)) ≡ x ++ ended v e (canonical_order ccc (decomposed v compat (s ∷ ms) ++ fs))
  more_text false compat ds x s ms fs ordered final is starter non_starters =
      let ordered_is = ap (is_ordered ccc) (sym is) ∙ ordered in
      let final_is = ap (list_all (is_final v compat)) (sym is) ∙ final in
      let low : class_of v s ≤ 0 = omega arith in
      ap (λ l. canonical_order ccc (l ++ fs)) is ∙ order_parts x s ms fs ordered_is low
      ∙ ap (λ l. x ++ l) (sym (ap (λ l. canonical_order ccc (l ++ fs)) (decomposed-final v sound compat (s ∷ ms) (list_all-back (is_final v compat) x (s ∷ ms) final_is) (is_ordered-back ccc x (s ∷ ms) ordered_is))
      ∙ order_parts [] s ms fs (is_ordered-back ccc x (s ∷ ms) ordered_is) low))
  more_text true compat ds x s ms fs ordered final is starter non_starters =
      let is_composed = sym (compose_of_is ds) ∙ is in
      compose_of_is _
      ∙ elim (last_part ds) [
        | inl none ↦ absurd (non_starter_or_starter s x ms starter (ap (list_all (is_non_starter v)) (sym is_composed) ∙ none))
        | inr part ↦ more_composed compat ds x s ms fs ordered final is_composed starter non_starters part
      ]
      ∙ ap (λ l. x ++ l) (sym (compose_of_is _))

  -- for any text that follows
  pub more : (form : Form) (xs x y zs : List ℕ) → normal_form v form xs ≡ x ++ y → BeginsAtLastStarter v x y → normal_form v form (xs ++ zs) ≡ x ++ normal_form v form (y ++ zs)
  unfolding normal_form
  more form xs x y zs is begins =
      let compat = is_compat form in
      let fs = flat_map (full_of v compat) zs in
      ap (ended v (composes form)) (decomposed-front compat xs zs)
      ∙ more_text (composes form) compat (decomposed v compat xs) x begins.s begins.ms fs (is_ordered-decomposed v sound compat xs) (all_final v sound compat xs) (is ∙ ap (λ l. x ++ l) begins.split) begins.starter begins.non_starters
      ∙ ap (λ l. x ++ l)
      (ap (λ l. ended v (composes form) (canonical_order ccc (decomposed v compat l ++ fs))) (sym begins.split)
      ∙ ap (ended v (composes form)) (sym (decomposed-front compat y zs)))

  pub more_behind_non_starters : (form : Form) (xs x y zs : List ℕ) → normal_form v form xs ≡ x ++ y → HasNoStarter v x y → normal_form v form (xs ++ zs) ≡ x ++ normal_form v form (y ++ zs)
  more_behind_non_starters form xs x y zs is none =
      let all : normal_form v form xs ≡ y = is ∙ ap (λ l. l ++ y) none.nothing in
      sym (normal_form-front form xs zs) ∙ ap (λ l. normal_form v form (l ++ zs)) all ∙ ap (λ l. l ++ normal_form v form (y ++ zs)) (sym none.nothing)

pub one_more : OneMore
one_more v form text x y z c sound is where_y of_y =
    let value = normal_form_is v sound form (y ++ c ∷ []) z of_y in
    let is_value = sym (normal_form_is v sound form text (x ++ y) is) in
    let step : normal_form v form (text ++ c ∷ []) ≡ x ++ normal_form v form (y ++ c ∷ []) =
    elim where_y [
      | inl begins ↦ more v sound form text x y (c ∷ []) is_value begins
      | inr none ↦ more_behind_non_starters v sound form text x y (c ∷ []) is_value none
    ] in
    subst (IsNormalForm v form (text ++ c ∷ [])) (step ∙ ap (λ l. x ++ l) (sym value)) (IsNormalForm-normal_form v sound form (text ++ c ∷ []))

-- ---- a normal form parts before a boundary

module _ (v : VersionData) where
  -- the ordered full decomposition is cut before c, and begins with the first of its full decomposition
  pub decomposed-boundary : (compat : Bool) (xs : List ℕ) (c s : ℕ) (rest ys : List ℕ) → full_of v compat c ≡ s ∷ rest → class_of v s ≡ 0 →
      decomposed v compat (xs ++ c ∷ ys) ≡ decomposed v compat xs ++ s ∷ canonical_order (class_of v) (rest ++ flat_map (full_of v compat) ys)
  unfolding decomposed
  decomposed-boundary compat xs c s rest ys full starter =
      let f = full_of v compat in
      let low : class_of v s ≤ 0 = omega arith in
      ap (canonical_order (class_of v)) (flat_map-append f xs (c ∷ ys) ∙ ap (λ l. flat_map f xs ++ (l ++ flat_map f ys)) full)
      ∙ canonical_order-at_starter (class_of v) (flat_map f xs) s (rest ++ flat_map f ys) low

  -- where nothing stands before it
  pub decomposed-begins : (compat : Bool) (c s : ℕ) (rest ys : List ℕ) → full_of v compat c ≡ s ∷ rest → class_of v s ≡ 0 →
      decomposed v compat (c ∷ ys) ≡ s ∷ canonical_order (class_of v) (rest ++ flat_map (full_of v compat) ys)
  unfolding decomposed
  decomposed-begins compat c s rest ys full starter =
      decomposed-boundary compat [] c s rest ys full starter ∙ ap (λ l. l ++ s ∷ canonical_order (class_of v) (rest ++ flat_map (full_of v compat) ys)) (canonical_order-nil (class_of v))

  -- composition is cut before a starter that never composes backward
  pub ended-boundary : (b : Bool) (xs : List ℕ) (s : ℕ) (ys : List ℕ) → class_of v s ≡ 0 → (b ≡ true → (a : ℕ) → composite v a s ≡ None) →
      ended v b (xs ++ s ∷ ys) ≡ ended v b xs ++ ended v b (s ∷ ys)
  unfolding compose_of
  ended-boundary true xs s ys starter apart = compose-at_boundary (class_of v) (composite v) xs s ys (omega arith) (apart refl)
  ended-boundary false xs s ys starter apart = refl

-- the full decomposition that a boundary names is that of the function
pub full_of-boundary : (v : VersionData) (form : Form) (c : ℕ) → IsSound v → (at : IsBoundary v form c) → full_of v (is_compat form) c ≡ at.first ∷ at.rest
full_of-boundary v form c sound at =
    sym (append-nil (full_of v (is_compat form) c)) ∙ sym (full_decomposition-flat_map v (is_compat form) sound.shallow (c ∷ []) (at.first ∷ at.rest) at.decomposes)

-- before a boundary, what was written stands
pub normal_form-parts : (v : VersionData) (sound : IsSound v) (form : Form) (xs : List ℕ) (c : ℕ) (ys : List ℕ) → IsBoundary v form c →
    normal_form v form (xs ++ c ∷ ys) ≡ normal_form v form xs ++ normal_form v form (c ∷ ys)
unfolding normal_form
normal_form-parts v sound form xs c ys at =
    let compat = is_compat form in
    let b = composes form in
    let full = full_of-boundary v form c sound at in
    ap (ended v b) (decomposed-boundary v compat xs c at.first at.rest ys full at.starter)
    ∙ ended-boundary v b (decomposed v compat xs) at.first (canonical_order (class_of v) (at.rest ++ flat_map (full_of v compat) ys)) at.starter (λ on. composite-never v at.first (at.never_second on))
    ∙ ap (λ l. ended v b (decomposed v compat xs) ++ ended v b l) (sym (decomposed-begins v compat c at.first at.rest ys full at.starter))

pub forms_at_boundary : FormsAtBoundary
forms_at_boundary v form xs c ys before after sound at of_before of_after =
    let same : normal_form v form (xs ++ c ∷ ys) ≡ before ++ after =
    normal_form-parts v sound form xs c ys at ∙ ap (λ l. l ++ normal_form v form (c ∷ ys)) (sym (normal_form_is v sound form xs before of_before))
    ∙ ap (λ l. before ++ l) (sym (normal_form_is v sound form (c ∷ ys) after of_after)) in
    subst (λ l. IsNormalForm v form (xs ++ c ∷ ys) l) same (IsNormalForm-normal_form v sound form (xs ++ c ∷ ys))

-- ---- a starter that passes the quick check is its own form

-- classes that never fall don't behind a starter either
pub rises_from : (ccc : ℕ → ℕ) (a : ℕ) (rest : List ℕ) → ccc a ≡ 0 → NeverFalls ccc rest → NeverFalls ccc (a ∷ rest)
rises_from ccc a [] starter rises = tt
rises_from ccc a (b ∷ bs) starter rises = (omega arith, rises)

-- classes that never fall hold no reorderable pair
pub is_ordered-never_falls : (ccc : ℕ → ℕ) (cs : List ℕ) → NeverFalls ccc cs → is_ordered ccc cs ≡ true
is_ordered-never_falls ccc [] h = is_ordered-nil ccc
is_ordered-never_falls ccc (a ∷ []) h = is_ordered-one ccc a
is_ordered-never_falls ccc (a ∷ b ∷ cs) h = is_ordered-cons ccc a b cs (not_reorderable_rising ccc a b h.0) (is_ordered-never_falls ccc (b ∷ cs) h.1)

module _ (v : VersionData) (sound : IsSound v) where
  -- each of bs composes with the starter in turn
  compose_after-folds : (s : ℕ) (bs : List ℕ) (c : ℕ) → ComposesTo v s bs c → compose_after (class_of v) (composite v) s [] bs ≡ c ∷ []
  compose_after-folds s [] c same = compose_after-nil (class_of v) (composite v) s [] ∙ ap (λ x. x ∷ []) same
  compose_after-folds s (b ∷ bs) c h =
      compose_after-joined (class_of v) (composite v) s [] b h.0 bs (joined-free (class_of v) (composite v) s [] b refl ∙ composite_from v sound s b h.0 h.1)
      ∙ compose_after-folds h.0 bs c h.2

  pub ended-folds : (b : Bool) (s : ℕ) (rest : List ℕ) (c : ℕ) → class_of v s ≡ 0 → MatchBool b (ComposesTo v s rest c) (s ∷ rest ≡ c ∷ []) → ended v b (s ∷ rest) ≡ c ∷ []
  unfolding compose_of
  ended-folds true s rest c starter folds = compose-starter (class_of v) (composite v) s rest (omega arith) ∙ compose_after-folds s rest c folds
  ended-folds false s rest c starter same = same

  pub normal_form-stays : (form : Form) (c : ℕ) → IsYesStarter v form c → normal_form v form (c ∷ []) ≡ c ∷ []
  unfolding normal_form
  normal_form-stays form c stays =
      let at = stays.boundary in
      ap (ended v (composes form))
      (decomposed-begins v (is_compat form) c at.first at.rest [] (full_of-boundary v form c sound at) at.starter ∙ ap (λ l. at.first ∷ canonical_order (class_of v) l) (append-nil at.rest)
      ∙ ap (λ l. at.first ∷ l) (canonical_order-ordered (class_of v) at.rest (is_ordered-never_falls (class_of v) at.rest stays.rises)))
      ∙ ended-folds (composes form) at.first at.rest c at.starter stays.returns

pub yes_starter_form : YesStarterForm
yes_starter_form v form c sound stays =
    subst (λ l. IsNormalForm v form (c ∷ []) l) (normal_form-stays v sound form c stays) (IsNormalForm-normal_form v sound form (c ∷ []))
