-- Composition of a list, from its last starter on.
use Rattle.std.proofs.Common.{◌≡◌, ℕ, ◌<◌, ◌≤◌, Bool, true, false, not, List, [], ◌∷◌, ◌++◌, flat_map, Option, Some, None, refl, sym, ap, subst, ◌∙◌, arith, inl, inr, append_assoc, append-nil, eq-eqb}
use Rattle.np_forms.proofs.Words.{cases_Bool, cases_lt, cond-true, cond-false, and_parts, and_from, eqb-false, ne_eqb, not-true, flat_map-append, list_all}
use Rattle.np_forms.proofs.Words.{is_reorderable, is_ordered, canonical_order, is_free, joined, compose_after, compose, is_starter}
use Rattle.np_versions.proofs.MappingLemmas.{list_all-append}
use Rattle.np_versions.proofs.CompositeLemmas.{cases_Option}
use Rattle.np_forms.proofs.OrderLemmas.{is_reorderable-true, is_ordered-tail, is_ordered-without_non_starter, canonical_order-behind, canonical_order-over}

module _ (ccc : ℕ → ℕ) where
  -- what is no starter is a non-starter
  pub is_starter-false : (c : ℕ) → is_starter ccc c ≡ false → 0 < ccc c
  is_starter-false c h = let ne = eqb-false (ccc c) 0 h in elim (cases_lt 0 (ccc c)) [ inl non_starter ↦ non_starter | inr low ↦ absurd (ne (omega arith)) ]

  -- class 0 is a starter
  pub is_starter_from : (c : ℕ) → ccc c ≤ 0 → is_starter ccc c ≡ true
  is_starter_from c low = eq-eqb (ccc c) 0 (omega arith)

  -- a non-starter is no starter
  pub not_starter_from : (c : ℕ) → 0 < ccc c → is_starter ccc c ≡ false
  not_starter_from c non_starter = ne_eqb (ccc c) 0 (λ e. omega arith)

  -- an ordered list stays ordered where one that nothing blocks is left out
  pub is_ordered-remove : (bs : List ℕ) (c : ℕ) (cs : List ℕ) → is_free ccc bs c ≡ true → is_ordered ccc (bs ++ c ∷ cs) ≡ true → is_ordered ccc (bs ++ cs) ≡ true
  is_ordered-remove [] c cs free h = is_ordered-tail ccc c cs h
  is_ordered-remove (b ∷ bs) c cs free h =
      let falls = is_reorderable-true ccc c b (and_parts (is_reorderable ccc c b) (is_free ccc bs c) free).0 in
      is_ordered-without_non_starter ccc (b ∷ bs) c cs (omega arith) h

module _ (ccc : ℕ → ℕ) (join : ℕ → ℕ → Option ℕ) where
  -- ---- the composite with the last starter

  -- where nothing blocks c, the pair decides
  pub joined-free : (s : ℕ) (bs : List ℕ) (c : ℕ) → is_free ccc bs c ≡ true → joined ccc join s bs c ≡ join s c
  unfolding joined
  joined-free s bs c free = cond-true _ _ _ free

  -- what is blocked does not compose
  pub joined-blocked : (s : ℕ) (bs : List ℕ) (c : ℕ) → is_free ccc bs c ≡ false → joined ccc join s bs c ≡ None
  unfolding joined
  joined-blocked s bs c blocked = cond-false _ _ _ blocked

  -- a pair with no composite has none behind bs either
  pub joined-none : (s : ℕ) (bs : List ℕ) (c : ℕ) → join s c ≡ None → joined ccc join s bs c ≡ None
  joined-none s bs c none =
      elim (cases_Bool (is_free ccc bs c)) [ inl free ↦ joined-free s bs c free ∙ none | inr blocked ↦ joined-blocked s bs c blocked ]

  -- what goes in is not blocked, and the pair has a composite
  pub joined-some : (s : ℕ) (bs : List ℕ) (c p : ℕ) → joined ccc join s bs c ≡ Some p → (is_free ccc bs c ≡ true) × (join s c ≡ Some p)
  joined-some s bs c p h =
      elim (cases_Bool (is_free ccc bs c)) [
        | inl free ↦ (free, sym (joined-free s bs c free) ∙ h)
        | inr blocked ↦ (let none = joined-blocked s bs c blocked in cc)
      ]

  -- ---- one step

  -- at the end the starter and what was kept are written
  pub compose_after-nil : (s : ℕ) (bs : List ℕ) → compose_after ccc join s bs [] ≡ s ∷ bs
  unfolding compose_after
  compose_after-nil s bs = refl

  -- c composes with the starter
  pub compose_after-joined : (s : ℕ) (bs : List ℕ) (c p : ℕ) (cs : List ℕ) → joined ccc join s bs c ≡ Some p → compose_after ccc join s bs (c ∷ cs) ≡ compose_after ccc join p bs cs
  unfolding compose_after
  compose_after-joined s bs c p cs some = rw (some, compose_after)

  -- c is the next starter
  pub compose_after-starter : (s : ℕ) (bs : List ℕ) (c : ℕ) (cs : List ℕ) → joined ccc join s bs c ≡ None → ccc c ≤ 0 → compose_after ccc join s bs (c ∷ cs) ≡ s ∷ (bs ++ compose_after ccc join c [] cs)
  unfolding compose_after
  compose_after-starter s bs c cs none low = let starter = is_starter_from ccc c low in rw (none, starter, compose_after)

  -- c is a non-starter that is kept
  pub compose_after-kept : (s : ℕ) (bs : List ℕ) (c : ℕ) (cs : List ℕ) → joined ccc join s bs c ≡ None → 0 < ccc c → compose_after ccc join s bs (c ∷ cs) ≡ compose_after ccc join s (bs ++ c ∷ []) cs
  unfolding compose_after
  compose_after-kept s bs c cs none non_starter = let no_starter = not_starter_from ccc c non_starter in rw (none, no_starter, compose_after)

  -- nothing composes to nothing
  pub compose-nil : compose ccc join [] ≡ []
  unfolding compose
  compose-nil = refl

  -- composition begins at the first starter
  pub compose-starter : (c : ℕ) (cs : List ℕ) → ccc c ≤ 0 → compose ccc join (c ∷ cs) ≡ compose_after ccc join c [] cs
  unfolding compose
  compose-starter c cs low = let starter = is_starter_from ccc c low in rw (starter, compose)

  -- a non-starter before the first starter stays
  pub compose-non_starter : (c : ℕ) (cs : List ℕ) → 0 < ccc c → compose ccc join (c ∷ cs) ≡ c ∷ compose ccc join cs
  unfolding compose
  compose-non_starter c cs non_starter = let no_starter = not_starter_from ccc c non_starter in rw (no_starter, compose)

  -- so do some
  pub compose-non_starters : (ms zs : List ℕ) → list_all (λ m. not (is_starter ccc m)) ms ≡ true → compose ccc join (ms ++ zs) ≡ ms ++ compose ccc join zs
  compose-non_starters [] zs h = refl
  compose-non_starters (m ∷ ms) zs h =
      let halves = and_parts (not (is_starter ccc m)) (list_all (λ b. not (is_starter ccc b)) ms) h in
      compose-non_starter m (ms ++ zs) (is_starter-false ccc m (not-true _ halves.0)) ∙ ap (λ l. m ∷ l) (compose-non_starters ms zs halves.1)

  -- what holds in each of the three cases
  pub compose_after-cases : (s : ℕ) (bs : List ℕ) (c : ℕ) (cs : List ℕ) (Q : List ℕ → Type 0) → ((p : ℕ) → is_free ccc bs c ≡ true → join s c ≡ Some p → Q (compose_after ccc join p bs cs)) → (joined ccc join s bs c ≡ None → ccc c ≤ 0 → Q (s ∷ (bs ++ compose_after ccc join c [] cs))) → (joined ccc join s bs c ≡ None → 0 < ccc c → Q (compose_after ccc join s (bs ++ c ∷ []) cs)) → Q (compose_after ccc join s bs (c ∷ cs))
  compose_after-cases s bs c cs Q in_composite in_starter in_non_starter =
      elim (cases_Option (joined ccc join s bs c)) [
        | inr some ↦
            let both = joined-some s bs c some.0 some.1 in
            subst Q (sym (compose_after-joined s bs c some.0 cs some.1)) (in_composite some.0 both.0 both.1)
        | inl none ↦
            elim (cases_lt 0 (ccc c)) [
              | inl non_starter ↦ subst Q (sym (compose_after-kept s bs c cs none non_starter)) (in_non_starter none non_starter)
              | inr low ↦ subst Q (sym (compose_after-starter s bs c cs none low)) (in_starter none low)
            ]
      ]

  -- what holds in both cases
  pub compose-cases : (c : ℕ) (cs : List ℕ) (Q : List ℕ → Type 0) → (ccc c ≤ 0 → Q (compose_after ccc join c [] cs)) → (0 < ccc c → Q (c ∷ compose ccc join cs)) → Q (compose ccc join (c ∷ cs))
  compose-cases c cs Q in_starter in_non_starter =
      elim (cases_lt 0 (ccc c)) [
        | inl non_starter ↦ subst Q (sym (compose-non_starter c cs non_starter)) (in_non_starter non_starter)
        | inr low ↦ subst Q (sym (compose-starter c cs low)) (in_starter low)
      ]

  -- ---- composition is cut before a starter that never composes backward

  abbrev pub IsNeverSecond : ℕ → Type 0
  IsNeverSecond x = (a : ℕ) → join a x ≡ None

  -- behind a starter
  compose_after-at_boundary : (s : ℕ) (bs xs : List ℕ) (x : ℕ) (ys : List ℕ) → ccc x ≤ 0 → IsNeverSecond x → compose_after ccc join s bs (xs ++ x ∷ ys) ≡ compose_after ccc join s bs xs ++ compose ccc join (x ∷ ys)
  compose_after-at_boundary s bs [] x ys low never =
      compose_after-starter s bs x ys (joined-none s bs x (never s)) low
      ∙ ap (λ l. s ∷ (bs ++ l)) (sym (compose-starter x ys low)) ∙ ap (λ l. l ++ compose ccc join (x ∷ ys)) (sym (compose_after-nil s bs))
  compose_after-at_boundary s bs (c ∷ cs) x ys low never =
      let end = compose ccc join (x ∷ ys) in
      compose_after-cases s bs c cs (λ l. compose_after ccc join s bs (c ∷ (cs ++ x ∷ ys)) ≡ l ++ end)
      (λ p free pair. compose_after-joined s bs c p (cs ++ x ∷ ys) (joined-free s bs c free ∙ pair) ∙ compose_after-at_boundary p bs cs x ys low never)
      (λ none starts.
      compose_after-starter s bs c (cs ++ x ∷ ys) none starts ∙ ap (λ l. s ∷ (bs ++ l)) (compose_after-at_boundary c [] cs x ys low never)
      ∙ sym (append_assoc (s ∷ bs) (compose_after ccc join c [] cs) end))
      (λ none non_starter. compose_after-kept s bs c (cs ++ x ∷ ys) none non_starter ∙ compose_after-at_boundary s (bs ++ c ∷ []) cs x ys low never)

  -- so the parts compose each for itself
  pub compose-at_boundary : (xs : List ℕ) (x : ℕ) (ys : List ℕ) → ccc x ≤ 0 → IsNeverSecond x → compose ccc join (xs ++ x ∷ ys) ≡ compose ccc join xs ++ compose ccc join (x ∷ ys)
  compose-at_boundary [] x ys low never = ap (λ l. l ++ compose ccc join (x ∷ ys)) (sym compose-nil)
  compose-at_boundary (c ∷ cs) x ys low never =
      compose-cases c cs (λ l. compose ccc join (c ∷ (cs ++ x ∷ ys)) ≡ l ++ compose ccc join (x ∷ ys))
      (λ starts. compose-starter c (cs ++ x ∷ ys) starts ∙ compose_after-at_boundary c [] cs x ys low never)
      (λ non_starter. compose-non_starter c (cs ++ x ∷ ys) non_starter ∙ ap (λ l. c ∷ l) (compose-at_boundary cs x ys low never))

  -- ---- composites decompose to what went into them

  module _ (parts_of : ℕ → List ℕ) (final : ℕ → Bool) (itself : (x : ℕ) → final x ≡ true → parts_of x ≡ x ∷ []) where
    -- final code points are their own parts
    flat_map-final : (xs : List ℕ) → list_all final xs ≡ true → flat_map parts_of xs ≡ xs
    flat_map-final [] all = refl
    flat_map-final (x ∷ xs) all =
        let both = and_parts (final x) (list_all final xs) all in
        ap (λ l. l ++ flat_map parts_of xs) (itself x both.0) ∙ ap (λ l. x ∷ l) (flat_map-final xs both.1)

    module _ (splits : (a b p : ℕ) → join a b ≡ Some p → parts_of p ≡ parts_of a ++ parts_of b) where
      abbrev order : List ℕ → List ℕ
      order = canonical_order ccc

      -- the parts of the composition are, in order, those of the starter and all that follows
      decomposed-compose_after : (s : ℕ) (bs cs : List ℕ) → list_all final bs ≡ true → list_all final cs ≡ true → order (flat_map parts_of (compose_after ccc join s bs cs)) ≡ order (parts_of s ++ (bs ++ cs))
      decomposed-compose_after s bs [] of_bs of_cs =
          ap order (ap (flat_map parts_of) (compose_after-nil s bs) ∙ ap (λ l. parts_of s ++ l) (flat_map-final bs of_bs ∙ sym (append-nil bs)))
      decomposed-compose_after s bs (c ∷ cs) of_bs of_cs =
          let both = and_parts (final c) (list_all final cs) of_cs in
          compose_after-cases s bs c cs (λ l. order (flat_map parts_of l) ≡ order (parts_of s ++ (bs ++ c ∷ cs)))
          (λ p free pair.
          decomposed-compose_after p bs cs of_bs both.1
          ∙ ap (λ l. order (l ++ (bs ++ cs))) (splits s c p pair ∙ ap (λ l. parts_of s ++ l) (itself c both.0))
          ∙ ap order (append_assoc (parts_of s) (c ∷ []) (bs ++ cs)) ∙ canonical_order-behind ccc (parts_of s) _ _ (canonical_order-over ccc c bs cs free))
          (λ none low.
          let rest = compose_after ccc join c [] cs in
          let later = decomposed-compose_after c [] cs refl both.1 ∙ ap (λ l. order (l ++ cs)) (itself c both.0) in
          ap (λ l. order (parts_of s ++ l)) (flat_map-append parts_of bs rest ∙ ap (λ l. l ++ flat_map parts_of rest) (flat_map-final bs of_bs))
          ∙ canonical_order-behind ccc (parts_of s) _ _ (canonical_order-behind ccc bs (flat_map parts_of rest) (c ∷ cs) later))
          (λ none non_starter.
          decomposed-compose_after s (bs ++ c ∷ []) cs (list_all-append final bs (c ∷ []) of_bs (and_from _ _ both.0 refl)) both.1
          ∙ ap (λ l. order (parts_of s ++ l)) (append_assoc bs (c ∷ []) cs))

      -- final code points are the parts of their composition, in order
      pub decomposed-compose : (cs : List ℕ) → list_all final cs ≡ true → order (flat_map parts_of (compose ccc join cs)) ≡ order cs
      decomposed-compose [] all = ap (λ l. order (flat_map parts_of l)) compose-nil
      decomposed-compose (c ∷ cs) all =
          let both = and_parts (final c) (list_all final cs) all in
          compose-cases c cs (λ l. order (flat_map parts_of l) ≡ order (c ∷ cs))
          (λ low. decomposed-compose_after c [] cs refl both.1 ∙ ap (λ l. order (l ++ cs)) (itself c both.0))
          (λ non_starter.
          ap (λ l. order (l ++ flat_map parts_of (compose ccc join cs))) (itself c both.0)
          ∙ canonical_order-behind ccc (c ∷ []) _ cs (decomposed-compose cs both.1))

  -- ---- what each composite has, the composition has

  module _ (final made : ℕ → Bool) (read : (x : ℕ) → final x ≡ true → made x ≡ true) (joins : (a b p : ℕ) → made a ≡ true → final b ≡ true → join a b ≡ Some p → made p ≡ true) where
    -- behind a starter
    list_all-compose_after : (s : ℕ) (bs cs : List ℕ) → made s ≡ true → list_all made bs ≡ true → list_all final cs ≡ true → list_all made (compose_after ccc join s bs cs) ≡ true
    list_all-compose_after s bs [] of_s of_bs of_cs = ap (list_all made) (compose_after-nil s bs) ∙ and_from _ _ of_s of_bs
    list_all-compose_after s bs (c ∷ cs) of_s of_bs of_cs =
        let both = and_parts (final c) (list_all final cs) of_cs in
        compose_after-cases s bs c cs (λ l. list_all made l ≡ true)
        (λ p free pair. list_all-compose_after p bs cs (joins s c p of_s both.0 pair) of_bs both.1)
        (λ none low. and_from _ _ of_s (list_all-append made bs _ of_bs (list_all-compose_after c [] cs (read c both.0) refl both.1)))
        (λ none non_starter. list_all-compose_after s (bs ++ c ∷ []) cs of_s (list_all-append made bs (c ∷ []) of_bs (and_from _ _ (read c both.0) refl)) both.1)

    -- each code point is read or made
    pub list_all-compose : (cs : List ℕ) → list_all final cs ≡ true → list_all made (compose ccc join cs) ≡ true
    list_all-compose [] all = ap (list_all made) compose-nil
    list_all-compose (c ∷ cs) all =
        let both = and_parts (final c) (list_all final cs) all in
        compose-cases c cs (λ l. list_all made l ≡ true)
        (λ low. list_all-compose_after c [] cs (read c both.0) refl both.1)
        (λ non_starter. and_from _ _ (read c both.0) (list_all-compose cs both.1))
