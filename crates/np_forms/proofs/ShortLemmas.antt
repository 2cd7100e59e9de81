-- A starter and one or two code points behind it: their canonical order, and what they compose to.
use Rattle.std.proofs.Common.{◌≡◌, ℕ, ◌<◌, ◌≤◌, Bool, true, false, List, [], ◌∷◌, ◌++◌, Option, Some, None, encode_utf8, encode_utf8_all, refl, sym, ap, ◌∙◌, arith, inl, inr, append_assoc, append-nil}
use Rattle.np_forms.proofs.Words.{and_from, and_left, cases_lt, canonical_order, compose_of, is_free, joined, ended}
use Rattle.np_forms.proofs.Words.{IsSound, VersionData, class_of, composite}
use Rattle.np_forms.proofs.ComposeLemmas.{compose-starter, compose_after-joined, compose_after-kept, compose_after-nil, compose_after-starter, joined-blocked, joined-free, joined-none}
use Rattle.np_forms.proofs.OrderLemmas.{canonical_order-exchange, canonical_order-ordered, is_ordered-cons, is_ordered-one, is_reorderable_from, not_reorderable_rising}
use Rattle.np_versions.proofs.CompositeLemmas.{composite-starter}

module _ (v : VersionData) (s : ℕ) (starter : class_of v s ≡ 0) where
  abbrev ccc : ℕ → ℕ
  ccc = class_of v

  abbrev join : ℕ → ℕ → Option ℕ
  join = composite v

  -- ---- canonical order

  pub pair-order : (a : ℕ) → canonical_order ccc (s ∷ a ∷ []) ≡ s ∷ a ∷ []
  pair-order a = canonical_order-ordered ccc (s ∷ a ∷ []) (is_ordered-cons ccc s a [] (not_reorderable_rising ccc s a (omega (arith, starter))) (is_ordered-one ccc a))

  -- two that rise stay
  pub rising-order : (a b : ℕ) → ccc a ≤ ccc b → canonical_order ccc (s ∷ a ∷ b ∷ []) ≡ s ∷ a ∷ b ∷ []
  rising-order a b rises =
      canonical_order-ordered ccc (s ∷ a ∷ b ∷ [])
      (is_ordered-cons ccc s a (b ∷ []) (not_reorderable_rising ccc s a (omega (arith, starter))) (is_ordered-cons ccc a b [] (not_reorderable_rising ccc a b rises) (is_ordered-one ccc b)))

  -- two that fall are exchanged
  pub falling-order : (a b : ℕ) → 0 < ccc b → ccc b < ccc a → canonical_order ccc (s ∷ a ∷ b ∷ []) ≡ s ∷ b ∷ a ∷ []
  falling-order a b some falls = canonical_order-exchange ccc (s ∷ []) a b [] (is_reorderable_from ccc a b some falls) ∙ rising-order b a (omega (arith, falls))

  -- ---- composition

  pub pair-joined : (form : Bool) (a p : ℕ) → form ≡ true → composite v s a ≡ Some p → ended v form (s ∷ a ∷ []) ≡ p ∷ []
  unfolding compose_of
  pair-joined true a p on found =
      compose-starter ccc join s (a ∷ []) (omega (arith, starter)) ∙ compose_after-joined ccc join s [] a p [] (joined-free ccc join s [] a refl ∙ found) ∙ compose_after-nil ccc join p []
  pair-joined false a p on found = cc

  pub pair-kept : (form : Bool) (a : ℕ) → (form ≡ true → composite v s a ≡ None) → ended v form (s ∷ a ∷ []) ≡ s ∷ a ∷ []
  unfolding compose_of
  pair-kept false a none = refl
  pair-kept true a none =
      let apart = joined-none ccc join s [] a (none refl) in
      compose-starter ccc join s (a ∷ []) (omega (arith, starter))
      ∙ elim (cases_lt 0 (ccc a)) [
        | inl some ↦ compose_after-kept ccc join s [] a [] apart some ∙ compose_after-nil ccc join s (a ∷ [])
        | inr low ↦ compose_after-starter ccc join s [] a [] apart low ∙ ap (λ l. s ∷ l) (compose_after-nil ccc join a [])
      ]

  module _ (a b : ℕ) (some : 0 < ccc a) (rises : ccc a ≤ ccc b) where
    -- the first goes in, and the second comes behind the composite
    pub first-joined : (sound : IsSound v) (form : Bool) (p : ℕ) → form ≡ true → composite v s a ≡ Some p → ended v form (s ∷ a ∷ b ∷ []) ≡ ended v form (p ∷ b ∷ [])
    unfolding compose_of
    first-joined sound true p on found =
        compose-starter ccc join s (a ∷ b ∷ []) (omega (arith, starter)) ∙ compose_after-joined ccc join s [] a p (b ∷ []) (joined-free ccc join s [] a refl ∙ found)
        ∙ sym (compose-starter ccc join p (b ∷ []) (omega (arith, composite-starter v sound s a p found)))
    first-joined sound false p on found = cc

    -- the first stays, and the second composes past it
    pub second-joined : (form : Bool) (p : ℕ) → form ≡ true → composite v s a ≡ None → ccc a < ccc b → composite v s b ≡ Some p → ended v form (s ∷ a ∷ b ∷ []) ≡ p ∷ a ∷ []
    unfolding compose_of
    second-joined true p on none up found =
        let free : is_free ccc (a ∷ []) b ≡ true = and_from _ _ (is_reorderable_from ccc b a some up) refl in
        compose-starter ccc join s (a ∷ b ∷ []) (omega (arith, starter)) ∙ compose_after-kept ccc join s [] a (b ∷ []) (joined-none ccc join s [] a none) some
        ∙ compose_after-joined ccc join s (a ∷ []) b p [] (joined-free ccc join s (a ∷ []) b free ∙ found) ∙ compose_after-nil ccc join p (a ∷ [])
    second-joined false p on none up found = cc

    -- the second is blocked, or has no composite
    second-kept : (ccc a < ccc b → composite v s b ≡ None) → joined ccc join s (a ∷ []) b ≡ None
    second-kept none =
        elim (cases_lt (ccc a) (ccc b)) [
          | inl up ↦ joined-none ccc join s (a ∷ []) b (none up)
          | inr low ↦ joined-blocked ccc join s (a ∷ []) b (and_left _ _ (not_reorderable_rising ccc b a low))
        ]

    -- none goes in
    pub both-kept : (form : Bool) → (form ≡ true → composite v s a ≡ None) → (form ≡ true → ccc a < ccc b → composite v s b ≡ None) → ended v form (s ∷ a ∷ b ∷ []) ≡ s ∷ a ∷ b ∷ []
    unfolding compose_of
    both-kept false first second = refl
    both-kept true first second =
        compose-starter ccc join s (a ∷ b ∷ []) (omega (arith, starter)) ∙ compose_after-kept ccc join s [] a (b ∷ []) (joined-none ccc join s [] a (first refl)) some
        ∙ compose_after-kept ccc join s (a ∷ []) b [] (second-kept (second refl)) (omega (arith, some, rises)) ∙ compose_after-nil ccc join s (a ∷ b ∷ [])

-- ---- the bytes of two or three that were written

pub two-written : (old one : List ℕ) (a b : ℕ) → one ≡ old ++ encode_utf8 a → one ++ encode_utf8 b ≡ old ++ encode_utf8_all (a ∷ b ∷ [])
two-written old one a b first =
    ap (λ l. l ++ encode_utf8 b) first ∙ append_assoc old (encode_utf8 a) (encode_utf8 b) ∙ ap (λ l. old ++ (encode_utf8 a ++ l)) (sym (append-nil (encode_utf8 b)))

pub three-written : (old one two : List ℕ) (a b c : ℕ) → one ≡ old ++ encode_utf8 a → two ≡ one ++ encode_utf8 b → two ++ encode_utf8 c ≡ old ++ encode_utf8_all (a ∷ b ∷ c ∷ [])
three-written old one two a b c first second =
    two-written one two b c second ∙ ap (λ l. l ++ encode_utf8_all (b ∷ c ∷ [])) first ∙ append_assoc old (encode_utf8 a) (encode_utf8_all (b ∷ c ∷ []))

-- what the checks of functions cite
pub ruleset short_answers = (falling-order, rising-order)
