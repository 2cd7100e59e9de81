-- Full decompositions of code points, syllables by arithmetic included.
use Rattle.std.proofs.Common.{◌≡◌, ℕ, ◌<◌, ◌⊎◌, Bool, true, false, ◌&&◌, List, [], ◌∷◌, ◌++◌, length, flat_map, refl, sym, ap, ◌∙◌, ◌||◌, arith, inl, inr}
use Rattle.np_forms.proofs.Words.{cases_Bool, cond-true, cond-false, or_from, is_syllable, syllable_pair, IsSound, is_final, full_of, table_full, VersionData}
use Rattle.np_forms.proofs.Words.{is_empty, has_hangul, pair_or_self, syllable_parts, and_right, drop_more, nil_from_length}
use Rattle.np_versions.proofs.TableLemmas.{parts-syllable}
use Rattle.np_versions.proofs.HangulLemmas.{IsJamo, IsLv, jamo_bare, shape_of}
use Rattle.np_versions.proofs.MappingLemmas.{parts-cases, full_of-final, full_of-mapped, full_of-some}

-- ---- what the arithmetic gives

second_plain : (s a b : ℕ) → is_syllable s ≡ true → syllable_pair s ≡ a ∷ b ∷ [] → is_syllable b ≡ false
second_plain s a b h pair =
    let shape = shape_of s h in
    let both = sym pair ∙ shape.pair in
    let same : b ≡ shape.second = cc in
    ap is_syllable same ∙ shape.tail.single

-- the first of the pair is no syllable, so the pair is all
pub syllable_parts-two : (s a b : ℕ) → is_syllable s ≡ true → syllable_pair s ≡ a ∷ b ∷ [] → is_syllable a ≡ false → syllable_parts s ≡ a ∷ b ∷ []
unfolding syllable_parts
syllable_parts-two s a b h pair plain =
    ap (flat_map pair_or_self) pair ∙ ap (λ l. l ++ (pair_or_self b ++ [])) (cond-false _ _ _ plain)
    ∙ ap (λ l. (a ∷ []) ++ (l ++ [])) (cond-false _ _ _ (second_plain s a b h pair))

-- the first of the pair is a syllable, whose pair comes in its place
pub syllable_parts-three : (s a b l w : ℕ) → is_syllable s ≡ true → syllable_pair s ≡ a ∷ b ∷ [] → is_syllable a ≡ true → syllable_pair a ≡ l ∷ w ∷ [] → syllable_parts s ≡ l ∷ w ∷ b ∷ []
unfolding syllable_parts
syllable_parts-three s a b l w h pair first again =
    ap (flat_map pair_or_self) pair ∙ ap (λ x. x ++ (pair_or_self b ++ [])) (cond-true _ _ _ first ∙ again)
    ∙ ap (λ x. (l ∷ w ∷ []) ++ (x ++ [])) (cond-false _ _ _ (second_plain s a b h pair))

-- ---- full decompositions

module _ (v : VersionData) (compat : Bool) where
  -- what a table lends is the full decomposition where it lends anything
  pub lent_some : (c : ℕ) (lent : List ℕ) → lent ≡ table_full v compat c → 0 < length lent → lent ≡ full_of v compat c
  unfolding table_full
  lent_some c lent e some =
      elim (cases_Bool (is_final v compat c || (has_hangul v && is_syllable c))) [
        | inl none ↦ absurd (omega (arith, ap length (e ∙ cond-true _ _ _ none)))
        | inr mapped ↦ e ∙ cond-false _ _ _ mapped
      ]

  module _ (sound : IsSound v) where
    -- where it lends nothing for what is no syllable of the arithmetic, the code point stays
    pub lent_none : (c : ℕ) (lent : List ℕ) → lent ≡ table_full v compat c → length lent ≡ 0 → (has_hangul v && is_syllable c) ≡ false → full_of v compat c ≡ c ∷ []
    unfolding table_full
    lent_none c lent e none plain =
        elim (cases_Bool (is_final v compat c)) [
          | inl final ↦ full_of-final v compat sound.shallow c final
          | inr mapped ↦
              let whole : lent ≡ full_of v compat c = e ∙ cond-false _ _ _ (or_from (is_final v compat c) (has_hangul v && is_syllable c) mapped plain) in
              absurd (omega (arith, ap length whole, full_of-some v compat c))
        ]

    module _ (on : has_hangul v ≡ true) where
      pub full_of-jamo : (c : ℕ) → IsJamo c → full_of v compat c ≡ c ∷ []
      full_of-jamo c jamo =
          full_of-final v compat sound.shallow c (parts-cases v compat (λ l. is_empty l ≡ true) refl c (ap is_empty (jamo_bare v c on jamo)))

      full_of-pair : (s a b : ℕ) → is_syllable s ≡ true → syllable_pair s ≡ a ∷ b ∷ [] → full_of v compat s ≡ full_of v compat a ++ (full_of v compat b ++ [])
      full_of-pair s a b h pair =
          let both = parts-syllable v compat s on h ∙ pair in
          full_of-mapped v compat sound.shallow s (ap is_empty both) ∙ ap (flat_map (full_of v compat)) both

      full_of-first : (a : ℕ) → IsJamo a ⊎ IsLv a → full_of v compat a ≡ pair_or_self a
      full_of-first a h =
          elim h [
            | inl jamo ↦ full_of-jamo a jamo ∙ sym (cond-false _ _ _ jamo.single)
            | inr lv ↦
                full_of-pair a lv.leading lv.vowel lv.syllable lv.pair ∙ ap (λ x. x ++ (full_of v compat lv.vowel ++ [])) (full_of-jamo lv.leading lv.first)
                ∙ ap (λ x. (lv.leading ∷ []) ++ (x ++ [])) (full_of-jamo lv.vowel lv.second) ∙ sym lv.pair ∙ sym (cond-true _ _ _ lv.syllable)
          ]

      pub full_of-syllable : (s : ℕ) → is_syllable s ≡ true → full_of v compat s ≡ syllable_parts s
      unfolding syllable_parts
      full_of-syllable s h =
          let shape = shape_of s h in
          full_of-pair s shape.first shape.second h shape.pair ∙ ap (λ x. x ++ (full_of v compat shape.second ++ [])) (full_of-first shape.first shape.head)
          ∙ ap (λ x. pair_or_self shape.first ++ (x ++ [])) (full_of-first shape.second (inl shape.tail)) ∙ sym (ap (flat_map pair_or_self) shape.pair)

-- what the checks of functions cite
pub ruleset lent_answers = (and_right, drop_more, nil_from_length, lent_none, lent_some)
