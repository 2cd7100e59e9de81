-- The machine of composition stops with one list, which `compose` computes.
use Rattle.std.proofs.Common.{◌≡◌, ◌≢◌, ℕ, zero, suc, ◌+◌, ◌-◌, ◌<◌, ◌≤◌, ◌⊎◌, Bool, true, false, not, List, [], ◌∷◌, ◌++◌, length, get_or, set, Option, Some, None, refl, sym, ap, ap₂, subst, ◌∙◌, arith, inl, inr, append_assoc, append-nil, length-append}
use Rattle.np_forms.proofs.Words.{cases_Bool, cases_order, and_parts, and_from, not-true, not_from_false, and_cases, eqb-false, both_ways, get_or-append-add}
use Rattle.np_forms.proofs.Words.{get_or_append_left, get_or_at, set_at, list_all, remove, Reaches, ReachesIn, VersionData, class_of, is_reorderable, is_free}
use Rattle.np_forms.proofs.Words.{joined, compose_after, compose, compose_of, is_starter, composite, IsSound}
use Rattle.std.proofs.lemmas.List.Edits.{remove-append_right}
use Rattle.np_forms.specs.Composition.{IsBlocked, IsLastStarter, Joins, Stage, ComposeStep, IsComposed}
use Rattle.np_code_points.proofs.StepsLemmas.{stays, one_more}
use Rattle.np_versions.proofs.MappingLemmas.{list_all-append}
use Rattle.np_forms.proofs.OrderLemmas.{is_reorderable-false, not_reorderable_starter, not_reorderable_rising}
use Rattle.np_forms.proofs.ComposeLemmas.{not_starter_from, joined-some, joined-free, compose_after-nil, compose_after-cases, compose-nil, compose-cases}
use Rattle.np_versions.proofs.CompositeLemmas.{composite-some, composite-none}

-- ---- tests along a list, by index

list_all-at : (p : ℕ → Bool) (xs : List ℕ) (k : ℕ) → list_all p xs ≡ true → k < length xs → p (get_or xs k 0) ≡ true
list_all-at p [] k h lt = absurd (omega arith)
list_all-at p (x ∷ xs) zero h lt = (and_parts (p x) (list_all p xs) h).0
list_all-at p (x ∷ xs) (suc k) h lt = list_all-at p xs k (and_parts (p x) (list_all p xs) h).1 (omega arith)

-- the first that fails
list_all-fails : (p : ℕ → Bool) (xs : List ℕ) → list_all p xs ≡ false → (k : ℕ) × (k < length xs) × (p (get_or xs k 0) ≡ false)
list_all-fails p [] h = cc
list_all-fails p (x ∷ xs) h =
    elim (and_cases (p x) (list_all p xs) h) [
      | inl here ↦ (zero, omega arith, here)
      | inr later ↦ let found = list_all-fails p xs later in (suc found.0, omega (arith, found.1), found.2)
    ]

-- the machine, begun at this stage, stops with ys
record Halts (v : VersionData) (start : Stage) (ys : List ℕ) : Type 0 where
  place : ℕ
  reached : Reaches (ComposeStep v) start (record { text = ys; place = place })
  ended : length ys ≤ place

-- ---- a list with its last starter shown

module _ (v : VersionData) (sound : IsSound v) where
  abbrev ccc : ℕ → ℕ
  ccc = class_of v

  abbrev join : ℕ → ℕ → Option ℕ
  join = composite v

  abbrev are_non_starters : List ℕ → Bool
  are_non_starters bs = list_all (λ b. not (is_starter ccc b)) bs

  one_starter : (xs : List ℕ) (n q r : ℕ) → IsLastStarter v xs n q → IsLastStarter v xs n r → q ≡ r
  one_starter xs n q r h k =
      elim (cases_order q r) [
        | inl same ↦ same
        | inr other ↦ elim other [ inl below ↦ absurd (h.greatest r below k.below k.starter) | inr above ↦ absurd (k.greatest q above h.below h.starter) ]
      ]

  module _ (done : List ℕ) (s : ℕ) (bs : List ℕ) (c : ℕ) (cs : List ℕ) where
    abbrev shown : List ℕ
    shown = done ++ s ∷ (bs ++ c ∷ cs)

    abbrev q : ℕ
    q = length done

    abbrev p : ℕ
    p = length done + suc (length bs)

    at_q : get_or shown q 0 ≡ s
    at_q = get_or_at done s (bs ++ c ∷ cs) 0 (length done) refl

    at_p : get_or shown p 0 ≡ c
    at_p = get_or-append-add done (s ∷ (bs ++ c ∷ cs)) (suc (length bs)) 0 ∙ get_or_at bs c cs 0 (length bs) refl

    at_between : (j : ℕ) → j < length bs → get_or shown (length done + suc j) 0 ≡ get_or bs j 0
    at_between j lt = get_or-append-add done (s ∷ (bs ++ c ∷ cs)) (suc j) 0 ∙ get_or_append_left bs (c ∷ cs) 0 j lt

    -- each place between is one of bs
    between : (P : ℕ → Type 0) → ((j : ℕ) → j < length bs → P (get_or bs j 0)) → (k : ℕ) → q < k → k < p → P (get_or shown k 0)
    between P each k low high =
        let j = k - suc (length done) in
        let same : length done + suc j ≡ k = omega arith in
        subst (λ i. P (get_or shown i 0)) same (subst P (sym (at_between j (omega arith))) (each j (omega arith)))

    p_within : p < length shown
    p_within = omega (arith, length-append done (s ∷ (bs ++ c ∷ cs)), length-append bs (c ∷ cs))

    module _ (starter : class_of v s ≤ 0) (non_starters : are_non_starters bs ≡ true) where
      last_starter : IsLastStarter v shown p q
      last_starter =
          record {
            below = omega arith;
            starter = ap ccc at_q ∙ omega arith;
            greatest = between (λ x. class_of v x ≢ 0) (λ j lt e. eqb-false (ccc (get_or bs j 0)) 0 (not-true _ (list_all-at (λ b. not (is_starter ccc b)) bs j non_starters lt)) e);
          }

      blocked : is_free ccc bs c ≡ false → IsBlocked v shown q p
      blocked h =
          let found = list_all-fails (is_reorderable ccc c) bs h in
          let here = at_between found.0 found.1 in
          record {
            at = length done + suc found.0;
            behind = omega arith;
            before = omega (arith, found.1);
            blocks = subst (λ x. (class_of v x ≡ 0) ⊎ (class_of v (get_or shown p 0) ≤ class_of v x)) (sym here)
                (subst (λ y. (class_of v (get_or bs found.0 0) ≡ 0) ⊎ (class_of v y ≤ class_of v (get_or bs found.0 0))) (sym at_p)
                (elim (is_reorderable-false ccc c (get_or bs found.0 0) found.2) [ inl low ↦ inl (omega arith) | inr high ↦ inr high ]));
          }

      free : is_free ccc bs c ≡ true → ¬ IsBlocked v shown q p
      free h b =
          between (λ x. ((class_of v x ≡ 0) ⊎ (class_of v (get_or shown p 0) ≤ class_of v x)) → ⊥)
          (λ j lt w. both_ways _
          (elim (subst (λ y. (class_of v (get_or bs j 0) ≡ 0) ⊎ (class_of v y ≤ class_of v (get_or bs j 0))) at_p w) [
            | inl zero_class ↦ not_reorderable_starter ccc c (get_or bs j 0) (omega arith)
            | inr high ↦ not_reorderable_rising ccc c (get_or bs j 0) high
          ])
          (list_all-at (is_reorderable ccc c) bs j h lt))
          b.at b.behind b.before b.blocks

      step_in : (k : ℕ) → joined ccc join s bs c ≡ Some k → ComposeStep v (record { text = shown; place = p }) (record { text = done ++ k ∷ (bs ++ cs); place = p })
      step_in k h =
          let removed : remove (set shown q k) p ≡ done ++ k ∷ (bs ++ cs) =
          ap (λ l. remove l p) (set_at done s (bs ++ c ∷ cs) k (length done) refl ∙ sym (append_assoc done (k ∷ bs) (c ∷ cs)))
          ∙ remove-append_right (done ++ k ∷ bs) (c ∷ cs) p p (omega (arith, length-append done (k ∷ bs))) (omega arith)
          ∙ ap (λ i. (done ++ k ∷ bs) ++ remove (c ∷ cs) i) (let e : p - p ≡ 0 = omega arith in e) ∙ append_assoc done (k ∷ bs) cs in
          let halves = joined-some ccc join s bs c k h in
          let is = composite-some v s c k halves.1 in
          let mapping = is.mapping ∙ ap₂ (λ x y. x ∷ y ∷ []) (sym at_q) (sym at_p) in
          let joins : Joins v shown p q k = record { seek = last_starter; free = free halves.0; pair = record { primary = is.primary; mapping = mapping } } in
          (p_within, inl (record { q = q; c = k; joins = joins; text = sym removed; place = refl }))

      step_on : joined ccc join s bs c ≡ None → ComposeStep v (record { text = shown; place = p }) (record { text = shown; place = p + 1 })
      step_on h =
          let none : (q' k : ℕ) → ¬ Joins v shown p q' k = λ q' k j.
          let same = one_starter shown p q' q j.seek last_starter in
          elim (cases_Bool (is_free ccc bs c)) [
            | inl is ↦
                composite-none v sound s c k (sym (joined-free ccc join s bs c is) ∙ h)
                (record { primary = j.pair.primary; mapping = j.pair.mapping ∙ ap₂ (λ x y. x ∷ y ∷ []) (ap (λ i. get_or shown i 0) same ∙ at_q) at_p })
            | inr isnt ↦ j.free (subst (λ i. IsBlocked v shown i p) (sym same) (blocked isnt))
          ] in
          (p_within, inr (record { none = none; text = refl; place = refl }))

  halts_after_step : (a b : Stage) (ys : List ℕ) → ComposeStep v a b → Halts v b ys → Halts v a ys
  halts_after_step a b ys s h = record { place = h.place; reached = one_more (ComposeStep v) a b _ s h.reached; ended = h.ended }

  abbrev at_stage : List ℕ → ℕ → List ℕ → Type 0
  at_stage xs n ys = Halts v (record { text = xs; place = n }) ys

  one_more_non_starter : (bs : List ℕ) (c : ℕ) → are_non_starters bs ≡ true → 0 < class_of v c → are_non_starters (bs ++ c ∷ []) ≡ true
  one_more_non_starter bs c non_starters non_starter =
      list_all-append (λ b. not (is_starter ccc b)) bs (c ∷ []) non_starters (and_from _ _ (not_from_false _ (not_starter_from ccc c non_starter)) refl)

  -- from a last starter on
  run_after : (done : List ℕ) (s : ℕ) (bs cs : List ℕ) → class_of v s ≤ 0 → are_non_starters bs ≡ true → at_stage (done ++ s ∷ (bs ++ cs)) (length done + suc (length bs)) (done ++ compose_after ccc join s bs cs)
  run_after done s bs [] starter non_starters =
      let same : done ++ s ∷ (bs ++ []) ≡ done ++ compose_after ccc join s bs [] =
      ap (λ l. done ++ s ∷ l) (append-nil bs) ∙ ap (λ l. done ++ l) (sym (compose_after-nil ccc join s bs)) in
      let size : length (done ++ s ∷ (bs ++ [])) ≤ length done + suc (length bs) = omega (arith, length-append done (s ∷ (bs ++ [])), length-append bs []) in
      subst (λ l. at_stage (done ++ s ∷ (bs ++ [])) (length done + suc (length bs)) l) same
      (record { place = length done + suc (length bs); reached = stays (ComposeStep v) _; ended = size })
  run_after done s bs (c ∷ cs) starter non_starters =
      let place = length done + suc (length bs) in
      compose_after-cases ccc join s bs c cs (λ l. at_stage (done ++ s ∷ (bs ++ c ∷ cs)) place (done ++ l))
      (λ k free pair.
      let is = composite-some v s c k pair in
      halts_after_step _ _ _ (step_in done s bs c cs starter non_starters k (joined-free ccc join s bs c free ∙ pair))
      (run_after done k bs cs (let e = is.primary.starter in omega arith) non_starters))
      (λ none starts.
      halts_after_step _ _ _ (step_on done s bs c cs starter non_starters none)
      (subst (λ l. at_stage l (place + 1) (done ++ s ∷ (bs ++ compose_after ccc join c [] cs))) (append_assoc done (s ∷ bs) (c ∷ cs))
      (subst (λ l. at_stage ((done ++ s ∷ bs) ++ c ∷ cs) (place + 1) l) (append_assoc done (s ∷ bs) (compose_after ccc join c [] cs))
      (let size : length (done ++ s ∷ bs) + 1 ≡ place + 1 = omega (arith, length-append done (s ∷ bs)) in
      subst (λ n. at_stage ((done ++ s ∷ bs) ++ c ∷ cs) n ((done ++ s ∷ bs) ++ compose_after ccc join c [] cs)) size (run_after (done ++ s ∷ bs) c [] cs starts refl)))))
      (λ none non_starter.
      halts_after_step _ _ _ (step_on done s bs c cs starter non_starters none)
      (subst (λ l. at_stage (done ++ s ∷ l) (place + 1) (done ++ compose_after ccc join s (bs ++ c ∷ []) cs)) (append_assoc bs (c ∷ []) cs)
      (let size : length done + suc (length (bs ++ c ∷ [])) ≡ place + 1 = omega (arith, length-append bs (c ∷ [])) in
      subst (λ n. at_stage (done ++ s ∷ ((bs ++ c ∷ []) ++ cs)) n (done ++ compose_after ccc join s (bs ++ c ∷ []) cs)) size
      (run_after done s (bs ++ c ∷ []) cs starter (one_more_non_starter bs c non_starters non_starter)))))

  -- no starter yet
  no_starter : (ms cs : List ℕ) → are_non_starters ms ≡ true → (q k : ℕ) → ¬ Joins v (ms ++ cs) (length ms) q k
  no_starter ms cs non_starters q k j =
      eqb-false (ccc (get_or ms q 0)) 0 (not-true _ (list_all-at (λ b. not (is_starter ccc b)) ms q non_starters j.seek.below))
      (sym (ap ccc (get_or_append_left ms cs 0 q j.seek.below)) ∙ j.seek.starter)

  run_before : (ms cs : List ℕ) → are_non_starters ms ≡ true → at_stage (ms ++ cs) (length ms) (ms ++ compose ccc join cs)
  run_before ms [] non_starters =
      let same : ms ++ [] ≡ ms ++ compose ccc join [] = ap (λ l. ms ++ l) (sym (compose-nil ccc join)) in
      subst (λ l. at_stage (ms ++ []) (length ms) l) same
      (record { place = length ms; reached = stays (ComposeStep v) _; ended = omega (arith, length-append ms []) })
  run_before ms (c ∷ cs) non_starters =
      let step : ComposeStep v (record { text = ms ++ c ∷ cs; place = length ms }) (record { text = ms ++ c ∷ cs; place = length ms + 1 }) =
      (omega (arith, length-append ms (c ∷ cs)), inr (record { none = no_starter ms (c ∷ cs) non_starters; text = refl; place = refl })) in
      compose-cases ccc join c cs (λ l. at_stage (ms ++ c ∷ cs) (length ms) (ms ++ l))
      (λ starts. halts_after_step _ _ _ step (run_after ms c [] cs starts refl))
      (λ non_starter.
      halts_after_step _ _ _ step
      (subst (λ l. at_stage l (length ms + 1) (ms ++ c ∷ compose ccc join cs)) (append_assoc ms (c ∷ []) cs)
      (subst (λ l. at_stage ((ms ++ c ∷ []) ++ cs) (length ms + 1) l) (append_assoc ms (c ∷ []) (compose ccc join cs))
      (let size : length (ms ++ c ∷ []) ≡ length ms + 1 = omega (arith, length-append ms (c ∷ [])) in
      subst (λ n. at_stage ((ms ++ c ∷ []) ++ cs) n ((ms ++ c ∷ []) ++ compose ccc join cs)) size (run_before (ms ++ c ∷ []) cs (one_more_non_starter ms c non_starters non_starter))))))

  run_from_one : (xs : List ℕ) → at_stage xs 1 (compose ccc join xs)
  run_from_one [] =
      subst (λ l. at_stage [] 1 l) (sym (compose-nil ccc join)) (record { place = 1; reached = stays (ComposeStep v) _; ended = omega arith })
  run_from_one (x ∷ xs) =
      compose-cases ccc join x xs (λ l. at_stage (x ∷ xs) 1 l) (λ starts. run_after [] x [] xs starts refl) (λ non_starter. run_before (x ∷ []) xs (one_more_non_starter [] x refl non_starter))

  pub IsComposed-compose_of : (xs : List ℕ) → IsComposed v xs (compose_of v xs)
  unfolding compose_of
  IsComposed-compose_of xs = let h = run_from_one xs in record { place = h.place; reached = h.reached; ended = h.ended }

  -- ---- no other list

  same_stage : (a b : Stage) → a.text ≡ b.text → a.place ≡ b.place → a ≡ b
  same_stage a b e f = λ i. record { text = e i; place = f i }

  one_result : (a b c : Stage) → ComposeStep v a b → ComposeStep v a c → b ≡ c
  one_result a b c s t =
      elim s.1 [
        | inl into ↦
            elim t.1 [
              | inl too ↦
                  let e = one_starter a.text a.place into.q too.q into.joins.seek too.joins.seek in
                  let f = sound.unlike (get_or a.text into.q 0) (get_or a.text a.place 0) into.c too.c into.joins.pair
                  (record { primary = too.joins.pair.primary; mapping = too.joins.pair.mapping ∙ ap (λ i. get_or a.text i 0 ∷ get_or a.text a.place 0 ∷ []) (sym e) }) in
                  same_stage b c (into.text ∙ ap₂ (λ x y. remove (set a.text x y) a.place) e f ∙ sym too.text) (into.place ∙ sym too.place)
              | inr on ↦ absurd (on.none into.q into.c into.joins)
            ]
        | inr on ↦
            elim t.1 [
              | inl into ↦ absurd (on.none into.q into.c into.joins)
              | inr too ↦ same_stage b c (on.text ∙ sym too.text) (on.place ∙ sym too.place)
            ]
      ]

  one_end : (n m : ℕ) (a b c : Stage) → ReachesIn (ComposeStep v) n a b → length b.text ≤ b.place → ReachesIn (ComposeStep v) m a c → length c.text ≤ c.place → b ≡ c
  one_end zero zero a b c r ended s stopped = sym r ∙ s
  one_end zero (suc m) a b c r ended s stopped =
      let step = subst (λ x. x.place < length x.text) r s.1.0 in absurd (omega arith)
  one_end (suc n) zero a b c r ended s stopped =
      let step = subst (λ x. x.place < length x.text) s r.1.0 in absurd (omega arith)
  one_end (suc n) (suc m) a b c r ended s stopped =
      let same = one_result a s.0 r.0 s.1 r.1 in
      one_end n m r.0 b c r.2 ended (subst (λ x. ReachesIn (ComposeStep v) m x c) same s.2) stopped

  pub composed-compose_of : (xs ys : List ℕ) → IsComposed v xs ys → ys ≡ compose_of v xs
  composed-compose_of xs ys h =
      let k = IsComposed-compose_of xs in
      ap (λ x. x.text) (one_end h.reached.0 k.reached.0 (record { text = xs; place = 1 }) (record { text = ys; place = h.place }) (record { text = compose_of v xs; place = k.place }) h.reached.1 h.ended k.reached.1 k.ended)
