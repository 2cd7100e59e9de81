-- Code points that may follow one another as they are are their own form.
use Rattle.std.proofs.Common.{◌≡◌, ℕ, ◌≤◌, ◌⊎◌, Bool, true, false, List, [], ◌∷◌, ◌++◌, Option, Some, None, length, flat_map, unwrap_or, MatchBool, refl, sym, ap, subst, ◌∙◌, arith, inl, inr, append_assoc, append-nil, ◌<◌}
use Rattle.np_forms.proofs.Words.{is_compat, composes, Form, and_left, and_right, cases_Bool, cases_lt, and_from, is_reorderable, canonical_order}
use Rattle.np_forms.proofs.Words.{slide, compose, compose_after, compose_of, is_free, joined, decomposed, ended, normal_form, ComposesTo, IsBoundary}
use Rattle.np_forms.proofs.Words.{NeverFalls, IsYesStarter, IsSound, is_final, VersionData, class_of, composite, full_of, NeverComposesBackward, MayFollow}
use Rattle.np_forms.proofs.Words.{CannotComposeAfter, Walks}
use Rattle.std.proofs.lemmas.List.Folds.{list_all-append}
use Rattle.np_versions.proofs.CompositeLemmas.{composite-never, composite_from}
use Rattle.np_versions.proofs.TableLemmas.{pair-value}
use Rattle.np_versions.proofs.MappingLemmas.{full_of-final}
use Rattle.np_versions.specs.Composites.{IsCompositeOf}
use Rattle.np_forms.proofs.StreamLemmas.{full_of-boundary}
use Rattle.np_forms.proofs.ComposeLemmas.{compose-nil, compose-non_starter, compose-starter, compose_after-kept, compose_after-nil, compose_after-starter, joined-blocked, joined-none, compose_after-joined, joined-free}
use Rattle.np_forms.proofs.OrderLemmas.{canonical_order-nil, not_reorderable_rising, not_reorderable_starter, slide-nil, slide-starter, slide-stays, is_reorderable-true, slide-over}

-- ---- what slides into non-starters that go into nothing composes as if it stood before them

module _ (ccc : ℕ → ℕ) (join : ℕ → ℕ → Option ℕ) where
  -- behind bs, non-starters of classes below n at the front of the list never compose backward, whatever the starter is
  abbrev pub KeptBelow : ℕ → List ℕ → List ℕ → Type 0
  KeptBelow n bs [] = Unit {0}
  KeptBelow n bs (x ∷ xs) = 0 < ccc x → ccc x < n → ((t : ℕ) → joined ccc join t bs x ≡ None) × KeptBelow n (bs ++ x ∷ []) xs

  -- what composes with the starter composes with it behind those too, which stay as they are
  slides_in : (s m p : ℕ) (bs xs : List ℕ) → join s m ≡ Some p → is_free ccc bs m ≡ true → KeptBelow (ccc m) bs xs → compose_after ccc join s bs (slide ccc m xs) ≡ compose_after ccc join p bs xs
  slides_in s m p bs [] pair free kept =
      ap (compose_after ccc join s bs) (slide-nil ccc m) ∙ compose_after-joined ccc join s bs m p [] (joined-free ccc join s bs m free ∙ pair)
  slides_in s m p bs (x ∷ xs) pair free kept =
      elim (cases_Bool (is_reorderable ccc m x)) [
        | inl past ↦
            let falls = is_reorderable-true ccc m x past in
            let none = kept falls.0 falls.1 in
            ap (compose_after ccc join s bs) (slide-over ccc m x xs past)
            ∙ compose_after-kept ccc join s bs x (slide ccc m xs) (none.0 s) falls.0
            ∙ slides_in s m p (bs ++ x ∷ []) xs pair (list_all-append (is_reorderable ccc m) bs (x ∷ []) ∙ and_from _ _ free (and_from _ _ past refl)) none.1
            ∙ sym (compose_after-kept ccc join p bs x xs (none.0 p) falls.0)
        | inr stays ↦
            ap (compose_after ccc join s bs) (slide-stays ccc m x xs stays)
            ∙ compose_after-joined ccc join s bs m p (x ∷ xs) (joined-free ccc join s bs m free ∙ pair)
      ]

  -- they are those of what slides in too, of no less a class
  KeptBelow-slide : (n m : ℕ) (bs xs : List ℕ) → n ≤ ccc m → KeptBelow n bs xs → KeptBelow n bs (slide ccc m xs)
  KeptBelow-slide n m bs [] le kept = subst (KeptBelow n bs) (sym (slide-nil ccc m)) (λ some below. absurd (omega (arith, le, below)))
  KeptBelow-slide n m bs (x ∷ xs) le kept =
      elim (cases_Bool (is_reorderable ccc m x)) [
        | inl past ↦
            subst (KeptBelow n bs) (sym (slide-over ccc m x xs past)) (λ some below. (let none = kept some below in (none.0, KeptBelow-slide n m (bs ++ x ∷ []) xs le none.1)))
        | inr stays ↦ subst (KeptBelow n bs) (sym (slide-stays ccc m x xs stays)) (λ some below. absurd (omega (arith, le, below)))
      ]

  -- and of all that slide in behind m
  KeptBelow-order : (n m : ℕ) (ms ys : List ℕ) → n ≤ ccc m → NeverFalls ccc (m ∷ ms) → KeptBelow n [] (canonical_order ccc ys) → KeptBelow n [] (canonical_order ccc (ms ++ ys))
  unfolding canonical_order
  KeptBelow-order n m [] ys le rises kept = kept
  KeptBelow-order n m (k ∷ ms) ys le rises kept =
      let up : n ≤ ccc k = omega (arith, le, rises.0) in KeptBelow-slide n k [] (canonical_order ccc (ms ++ ys)) up (KeptBelow-order n k ms ys up rises.1 kept)

module _ (v : VersionData) (sound : IsSound v) where
  rises_on : (m : ℕ) (ms : List ℕ) → NeverFalls (class_of v) (m ∷ ms) → NeverFalls (class_of v) ms
  rises_on m [] h = tt
  rises_on m (k ∷ ms) h = h.1

  -- what a composite decomposes to comes back, though it slides into what follows
  pub folds_over : (s : ℕ) (ms : List ℕ) (c : ℕ) (ys : List ℕ) → ComposesTo v s ms c → NeverFalls (class_of v) ms → ((n : ℕ) → KeptBelow (class_of v) (composite v) n [] (canonical_order (class_of v) ys))
      → compose_after (class_of v) (composite v) s [] (canonical_order (class_of v) (ms ++ ys)) ≡ compose_after (class_of v) (composite v) c [] (canonical_order (class_of v) ys)
  unfolding canonical_order
  folds_over s [] c ys same rises kept = ap (λ x. compose_after (class_of v) (composite v) x [] (canonical_order (class_of v) ys)) same
  folds_over s (m ∷ ms) c ys h rises kept =
      let behind = KeptBelow-order (class_of v) (composite v) (class_of v m) m ms ys (omega arith) rises (kept (class_of v m)) in
      slides_in (class_of v) (composite v) s m h.0 [] (canonical_order (class_of v) (ms ++ ys)) (composite_from v sound s m h.0 h.1) refl behind
      ∙ folds_over h.0 ms c ys h.2 (rises_on m ms rises) kept

module _ (v : VersionData) (sound : IsSound v) where
  abbrev ccc : ℕ → ℕ
  ccc = class_of v

  -- what a starter and others compose to is a starter
  folds_starter : (s : ℕ) (bs : List ℕ) (c : ℕ) → ccc s ≡ 0 → ComposesTo v s bs c → ccc c ≡ 0
  folds_starter s [] c starter same = subst (λ x. ccc x ≡ 0) same starter
  folds_starter s (b ∷ bs) c starter h = folds_starter h.0 bs c h.1.primary.starter h.2

  module _ (form : Form) where
    abbrev full : ℕ → List ℕ
    full = full_of v (is_compat form)

    -- the full decomposition in canonical order
    abbrev order : List ℕ → List ℕ
    order cs = canonical_order ccc (flat_map full cs)

    abbrev May : Option ℕ → ℕ → ℕ → ℕ → Type 0
    May = MayFollow v form

    order-nil : order [] ≡ []
    order-nil = canonical_order-nil ccc

    -- a starter that passes begins with a starter, over which nothing slides
    order-stays : (c : ℕ) (cs : List ℕ) (at : IsBoundary v form c) → order (c ∷ cs) ≡ at.first ∷ canonical_order ccc (at.rest ++ flat_map full cs)
    unfolding canonical_order
    order-stays c cs at =
        ap (λ l. canonical_order ccc (l ++ flat_map full cs)) (full_of-boundary v form c sound at)
        ∙ slide-starter ccc at.first (canonical_order ccc (at.rest ++ flat_map full cs)) (omega (arith, at.starter))

    -- what has no mapping slides into what follows
    order-final : (c : ℕ) (cs : List ℕ) → is_final v (is_compat form) c ≡ true → order (c ∷ cs) ≡ slide ccc c (order cs)
    unfolding canonical_order
    order-final c cs final = ap (λ l. canonical_order ccc (l ++ flat_map full cs)) (full_of-final v (is_compat form) sound.shallow c final)

    -- no less a class follows, or a starter
    walk_leads : (before : Option ℕ) (last : ℕ) (cs : List ℕ) (end : ℕ) → Walks May before last cs end → (a : ℕ) → ccc a ≤ last → slide ccc a (order cs) ≡ a ∷ order cs
    walk_leads before last [] end walk a low = ap (slide ccc a) order-nil ∙ slide-nil ccc a ∙ ap (λ l. a ∷ l) (sym order-nil)
    walk_leads before last (c ∷ cs) end walk a low =
        elim walk.1 [
          | inl stays ↦
              let at = stays.boundary in
              let parts = order-stays c cs at in
              ap (slide ccc a) parts ∙ slide-stays ccc a at.first (canonical_order ccc (at.rest ++ flat_map full cs)) (not_reorderable_starter ccc a at.first (omega (arith, at.starter)))
              ∙ ap (λ l. a ∷ l) (sym parts)
          | inr goes ↦
              let parts = order-final c cs goes.0 ∙ walk_leads (Some c) walk.0 cs end walk.2 c (omega (arith, goes.1)) in
              let apart : is_reorderable ccc a c ≡ false = elim goes.2 [ inl zero ↦ not_reorderable_starter ccc a c (omega (arith, goes.1, zero)) | inr above ↦ not_reorderable_rising ccc a c (omega (arith, goes.1, above, low)) ] in
              ap (slide ccc a) parts ∙ slide-stays ccc a c (order cs) apart ∙ ap (λ l. a ∷ l) (sym parts)
        ]

    -- so it stays in front
    order-front : (c n : ℕ) (cs : List ℕ) (end : ℕ) → is_final v (is_compat form) c ≡ true → n ≡ ccc c → Walks May (Some c) n cs end → order (c ∷ cs) ≡ c ∷ order cs
    order-front c n cs end final same walk = order-final c cs final ∙ walk_leads (Some c) n cs end walk c (omega (arith, same))

    -- ---- it composes to what it came from

    module _ (on : composes form ≡ true) where
      comes_back : (c : ℕ) (stays : IsYesStarter v form c) → ComposesTo v stays.boundary.first stays.boundary.rest c
      comes_back c stays = subst (λ b. MatchBool b (ComposesTo v stays.boundary.first stays.boundary.rest c) (stays.boundary.first ∷ stays.boundary.rest ≡ c ∷ [])) on stays.returns

      -- what may follow a, but is no starter that passes, does not compose
      abbrev GoesBehind : ℕ → ℕ → Type 0
      GoesBehind a c = NeverComposesBackward v form c ⊎ CannotComposeAfter v form a c

      goes_behind : (a c : ℕ) → NeverComposesBackward v form c ⊎ ((kept : ℕ) × (Some a ≡ Some kept) × CannotComposeAfter v form kept c) → GoesBehind a c
      goes_behind a c goes =
          elim goes [
            | inl inert ↦ inl inert
            | inr stands ↦ inr (subst (λ x. CannotComposeAfter v form x c) (sym (ap (λ o. unwrap_or o 0) stands.1)) stands.2)
          ]

      -- what cannot compose after a is blocked where a was kept
      uncomposed_blocked : (t : ℕ) (bs fs : List ℕ) (a c : ℕ) → bs ≡ fs ++ a ∷ [] → CannotComposeAfter v form a c → joined ccc (composite v) t bs c ≡ None
      uncomposed_blocked t bs fs a c same stands =
          let fails : is_reorderable ccc c a ≡ false =
          elim stands [ inl blocks ↦ not_reorderable_rising ccc c a blocks.1 | inr pair ↦ not_reorderable_starter ccc c a (omega (arith, pair.0)) ] in
          joined-blocked ccc (composite v) t bs c
          (ap (λ l. is_free ccc l c) same ∙ list_all-append (is_reorderable ccc c) fs (a ∷ []) ∙ and_right (is_free ccc fs c) _ (and_left (is_reorderable ccc c a) true fails))

      -- what stands behind the last starter s, and bs, which were kept, ends with a
      abbrev EndsWith : ℕ → List ℕ → ℕ → Type 0
      EndsWith s bs a = ((bs ≡ []) × (a ≡ s)) ⊎ ((fs : List ℕ) × (bs ≡ fs ++ a ∷ []))

      -- it composes with no s
      none_follows : (s : ℕ) (bs : List ℕ) (a c : ℕ) → ccc s ≡ 0 → EndsWith s bs a → GoesBehind a c → joined ccc (composite v) s bs c ≡ None
      none_follows s bs a c starter ends goes =
          elim goes [
            | inl inert ↦ joined-none ccc (composite v) s bs c (composite-never v c (inert on) s)
            | inr stands ↦ elim ends [
              | inl own ↦ elim stands [
                | inl blocks ↦ absurd (omega (arith, blocks.0, ap ccc own.1, starter))
                | inr pair ↦ joined-none ccc (composite v) s bs c (sym (pair-value v sound s c None tt (subst (λ x. (p : ℕ) → ¬ (IsCompositeOf v x c p)) own.1 pair.2)))
              ]
              | inr more ↦ uncomposed_blocked s bs more.0 a c more.1 stands
            ]
          ]

      -- ---- behind a composite

      -- bs were kept behind a composite, and end with a: or a is it
      abbrev EndsBehind : List ℕ → ℕ → Type 0
      EndsBehind bs a = ((ccc a ≡ 0) × (is_final v (is_compat form) a ≡ false)) ⊎ ((fs : List ℕ) × (bs ≡ fs ++ a ∷ []))

      -- it composes with no starter
      never_follows : (t : ℕ) (bs : List ℕ) (a c : ℕ) → EndsBehind bs a → GoesBehind a c → joined ccc (composite v) t bs c ≡ None
      never_follows t bs a c ends goes =
          elim goes [
            | inl inert ↦ joined-none ccc (composite v) t bs c (composite-never v c (inert on) t)
            | inr stands ↦ elim ends [
              | inl own ↦ elim stands [
                | inl blocks ↦ absurd (omega (arith, blocks.0, own.0))
                | inr pair ↦ (let clash = sym pair.1 ∙ own.1 in cc)
              ]
              | inr more ↦ uncomposed_blocked t bs more.0 a c more.1 stands
            ]
          ]

      -- so the non-starters behind a composite compose with no part of it
      walk_kept : (a : ℕ) (bs : List ℕ) (k last : ℕ) (cs : List ℕ) (end : ℕ) → EndsBehind bs a → Walks May (Some a) last cs end → KeptBelow ccc (composite v) k bs (order cs)
      walk_kept a bs k last [] end ends walk = subst (KeptBelow ccc (composite v) k bs) (sym order-nil) tt
      walk_kept a bs k last (c ∷ cs) end ends walk =
          elim walk.1 [
            | inl stays ↦ subst (KeptBelow ccc (composite v) k bs) (sym (order-stays c cs stays.boundary)) (λ some below. absurd (omega (arith, some, stays.boundary.starter)))
            | inr goes ↦
                subst (KeptBelow ccc (composite v) k bs) (sym (order-front c walk.0 cs end goes.0 goes.1 walk.2))
                (λ some below. (λ t. never_follows t bs a c ends (goes_behind a c goes.3), walk_kept c (bs ++ c ∷ []) k walk.0 cs end (inr (bs, refl)) walk.2))
          ]

      -- a starter that passes comes back, whatever follows it
      returns_before : (c first : ℕ) (rest : List ℕ) (n : ℕ) (cs : List ℕ) (end : ℕ) → full c ≡ first ∷ rest → ccc c ≡ 0 → NeverFalls ccc rest → ComposesTo v first rest c → Walks May (Some c) n cs end
          → compose_after ccc (composite v) first [] (canonical_order ccc (rest ++ flat_map full cs)) ≡ compose_after ccc (composite v) c [] (order cs)
      returns_before c first [] n cs end whole starter rises folds walk = ap (λ x. compose_after ccc (composite v) x [] (order cs)) folds
      returns_before c first (m ∷ ms) n cs end whole starter rises folds walk =
          let mapped : is_final v (is_compat form) c ≡ false =
          elim (cases_Bool (is_final v (is_compat form) c)) [ inl final ↦ absurd (omega (arith, ap length (sym (full_of-final v (is_compat form) sound.shallow c final) ∙ whole))) | inr off ↦ off ] in
          folds_over v sound first (m ∷ ms) c (flat_map full cs) folds rises (λ k. walk_kept c [] k n cs end (inl (starter, mapped)) walk)

      returns : (c n : ℕ) (cs : List ℕ) (end : ℕ) (stays : IsYesStarter v form c) → Walks May (Some c) n cs end
          → compose_after ccc (composite v) stays.boundary.first [] (canonical_order ccc (stays.boundary.rest ++ flat_map full cs)) ≡ compose_after ccc (composite v) c [] (order cs)
      returns c n cs end stays walk =
          let at = stays.boundary in
          let back = comes_back c stays in
          returns_before c at.first at.rest n cs end (full_of-boundary v form c sound at) (folds_starter at.first at.rest c at.starter back) stays.rises back walk

      -- it is a starter
      stays_starter : (c : ℕ) → IsYesStarter v form c → ccc c ≡ 0
      stays_starter c stays = folds_starter stays.boundary.first stays.boundary.rest c stays.boundary.starter (comes_back c stays)

      -- ---- the walk

      walk_composed_after : (a s : ℕ) (bs : List ℕ) (last : ℕ) (cs : List ℕ) (end : ℕ) → ccc s ≡ 0 → EndsWith s bs a → Walks May (Some a) last cs end → compose_after ccc (composite v) s bs (order cs) ≡ s ∷ (bs ++ cs)
      walk_composed_after a s bs last [] end starter ends walk = ap (compose_after ccc (composite v) s bs) order-nil ∙ compose_after-nil ccc (composite v) s bs ∙ ap (λ l. s ∷ l) (sym (append-nil bs))
      walk_composed_after a s bs last (c ∷ cs) end starter ends walk =
          elim walk.1 [
            | inl stays ↦
                let at = stays.boundary in
                ap (compose_after ccc (composite v) s bs) (order-stays c cs at)
                ∙ compose_after-starter ccc (composite v) s bs at.first (canonical_order ccc (at.rest ++ flat_map full cs)) (joined-none ccc (composite v) s bs at.first (composite-never v at.first (at.never_second on) s)) (omega (arith, at.starter))
                ∙ ap (λ l. s ∷ (bs ++ l)) (returns c walk.0 cs end stays walk.2 ∙ walk_composed_after c c [] walk.0 cs end (stays_starter c stays) (inl (refl, refl)) walk.2)
            | inr goes ↦
                let none = none_follows s bs a c starter ends (goes_behind a c goes.3) in
                ap (compose_after ccc (composite v) s bs) (order-front c walk.0 cs end goes.0 goes.1 walk.2)
                ∙ elim (cases_lt 0 (ccc c)) [
                  | inl non_starter ↦
                      compose_after-kept ccc (composite v) s bs c (order cs) none non_starter
                      ∙ walk_composed_after c s (bs ++ c ∷ []) walk.0 cs end starter (inr (bs, refl)) walk.2 ∙ ap (λ l. s ∷ l) (append_assoc bs (c ∷ []) cs)
                  | inr low ↦
                      compose_after-starter ccc (composite v) s bs c (order cs) none low
                      ∙ ap (λ l. s ∷ (bs ++ l)) (walk_composed_after c c [] walk.0 cs end (omega (arith, low)) (inl (refl, refl)) walk.2)
                ]
          ]

      walk_composed : (before : Option ℕ) (last : ℕ) (cs : List ℕ) (end : ℕ) → Walks May before last cs end → compose ccc (composite v) (order cs) ≡ cs
      walk_composed before last [] end walk = ap (compose ccc (composite v)) order-nil ∙ compose-nil ccc (composite v)
      walk_composed before last (c ∷ cs) end walk =
          elim walk.1 [
            | inl stays ↦
                let at = stays.boundary in
                ap (compose ccc (composite v)) (order-stays c cs at)
                ∙ compose-starter ccc (composite v) at.first (canonical_order ccc (at.rest ++ flat_map full cs)) (omega (arith, at.starter))
                ∙ returns c walk.0 cs end stays walk.2 ∙ walk_composed_after c c [] walk.0 cs end (stays_starter c stays) (inl (refl, refl)) walk.2
            | inr goes ↦
                ap (compose ccc (composite v)) (order-front c walk.0 cs end goes.0 goes.1 walk.2)
                ∙ elim (cases_lt 0 (ccc c)) [
                  | inl non_starter ↦ compose-non_starter ccc (composite v) c (order cs) non_starter ∙ ap (λ l. c ∷ l) (walk_composed (Some c) walk.0 cs end walk.2)
                  | inr low ↦ compose-starter ccc (composite v) c (order cs) low ∙ walk_composed_after c c [] walk.0 cs end (omega (arith, low)) (inl (refl, refl)) walk.2
                ]
          ]

    -- the first code point, and behind it the others before ys in canonical order
    abbrev whole : List ℕ → List ℕ → List ℕ
    whole [] ys = []
    whole (x ∷ xs) ys = x ∷ canonical_order ccc (xs ++ ys)

    -- where the form only decomposes, a starter that passes is its own full decomposition
    stays_front : composes form ≡ false → (c : ℕ) (cs : List ℕ) (stays : IsYesStarter v form c) → order (c ∷ cs) ≡ c ∷ order cs
    stays_front off c cs stays =
        let at = stays.boundary in
        let same : at.first ∷ at.rest ≡ c ∷ [] = subst (λ b. MatchBool b (ComposesTo v at.first at.rest c) (at.first ∷ at.rest ≡ c ∷ [])) off stays.returns in
        order-stays c cs at ∙ ap (λ l. whole l (flat_map full cs)) same

    -- so nothing changes
    walk_plain : composes form ≡ false → (before : Option ℕ) (last : ℕ) (cs : List ℕ) (end : ℕ) → Walks May before last cs end → order cs ≡ cs
    walk_plain off before last [] end walk = order-nil
    walk_plain off before last (c ∷ cs) end walk =
        let front : order (c ∷ cs) ≡ c ∷ order cs = elim walk.1 [ inl stays ↦ stays_front off c cs stays | inr goes ↦ order-front c walk.0 cs end goes.0 goes.1 walk.2 ] in
        front ∙ ap (λ l. c ∷ l) (walk_plain off (Some c) walk.0 cs end walk.2)

    walk_ended : (b : Bool) → composes form ≡ b → (before : Option ℕ) (last : ℕ) (cs : List ℕ) (end : ℕ) → Walks May before last cs end → ended v b (order cs) ≡ cs
    unfolding compose_of
    walk_ended true on before last cs end walk = walk_composed on before last cs end walk
    walk_ended false off before last cs end walk = walk_plain off before last cs end walk

-- what may follow one another is its own form, wherever it begins
pub walked_form : (v : VersionData) (sound : IsSound v) (form : Form) (before : Option ℕ) (last : ℕ) (cs : List ℕ) (end : ℕ) → Walks (MayFollow v form) before last cs end → normal_form v form cs ≡ cs
unfolding normal_form decomposed
walked_form v sound form before last cs end walk = walk_ended v sound form (composes form) refl before last cs end walk

pub quick_span_form : (v : VersionData) (sound : IsSound v) (form : Form) (cs : List ℕ) (end : ℕ) → Walks (MayFollow v form) None 0 cs end → normal_form v form cs ≡ cs
quick_span_form v sound form cs end walk = walked_form v sound form None 0 cs end walk
