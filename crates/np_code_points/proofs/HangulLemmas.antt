-- Hangul syllables and the pairs that they map to, at any number.
use Rattle.std.proofs.Common.{◌≡◌, ℕ, ◌+◌, ◌-◌, ◌*◌, ◌/◌, ◌%◌, ◌<◌, ◌≤◌, ◌≢◌, ◌⊎◌, inl, inr, true, List, [], ◌∷◌, get_or, sym, ap, ◌∙◌, arith}
use Rattle.std.proofs.lemmas.Bool.{and_from, and_parts, cases_eq, eq-eqb, eqb-true, le-leb, leb-true, lt-ltb, ltb-true, ne_eqb}
use Rattle.np_code_points.specs.Hangul.{is_among, is_syllable, syllable_pair}
use Rattle.np_code_points.specs.inside.HangulParts.{is_leading_consonant, is_vowel, is_trailing_consonant, is_lv_syllable}

-- what the test says
pub among_bounds : (base count c : ℕ) → is_among base count c ≡ true → (base ≤ c) × (c < base + count)
among_bounds base count c h =
    let p = and_parts _ _ h in (leb-true base c p.0, ltb-true c (base + count) p.1)

pub among_from_bounds : (base count c : ℕ) → base ≤ c → c < base + count → is_among base count c ≡ true
among_from_bounds base count c low high = and_from _ _ (le-leb base c low) (lt-ltb c (base + count) high)

-- the pair of an LV syllable, and that of an LVT syllable
pub pair_of_lv : (s : ℕ) → (s - 0xAC00) % 28 ≡ 0
    → syllable_pair s ≡ (0x1100 + (s - 0xAC00) / 588) ∷ (0x1161 + (s - 0xAC00) % 588 / 28) ∷ []
unfolding syllable_pair
pair_of_lv s h = rw (eq-eqb ((s - 0xAC00) % 28) 0 h)

pub pair_of_lvt : (s : ℕ) → (s - 0xAC00) % 28 ≢ 0
    → syllable_pair s ≡ (s - (s - 0xAC00) % 28) ∷ (0x11A7 + (s - 0xAC00) % 28) ∷ []
unfolding syllable_pair
pair_of_lvt s h = rw (ne_eqb ((s - 0xAC00) % 28) 0 h)

-- equal pairs have equal parts
pub first_same : (a b c d : ℕ) → a ∷ b ∷ [] ≡ c ∷ d ∷ [] → a ≡ c
first_same a b c d h = ap (λ (l : List ℕ). get_or l 0 0) h

pub second_same : (a b c d : ℕ) → a ∷ b ∷ [] ≡ c ∷ d ∷ [] → b ≡ d
second_same a b c d h = ap (λ (l : List ℕ). get_or l 1 0) h

-- an index is its three digits: 588 = 21 * 28
index_parts : (i : ℕ) → i % 28 ≡ 0 → i ≡ i / 588 * 588 + i % 588 / 28 * 28
index_parts i h = omega arith

index_of : (l v : ℕ) → l < 19 → v < 21
    → ((l * 588 + v * 28) / 588 ≡ l) × ((l * 588 + v * 28) % 588 / 28 ≡ v) × ((l * 588 + v * 28) % 28 ≡ 0)
index_of l v hl hv = (omega arith, omega arith, omega arith)

index_bounds : (i : ℕ) → i < 11172 → (i / 588 < 19) × (i % 588 / 28 < 21) × (i % 28 < 28)
index_bounds i h = (omega arith, omega arith, omega arith)

-- a leading consonant and a vowel have an LV syllable
pub lv_of_pair : (a b s : ℕ) → is_leading_consonant a ≡ true → is_vowel b ≡ true
    → s ≡ 0xAC00 + (a - 0x1100) * 588 + (b - 0x1161) * 28 → (is_syllable s ≡ true) × (syllable_pair s ≡ a ∷ b ∷ [])
lv_of_pair a b s ha hb e =
    let pa = among_bounds 0x1100 19 a ha in
    let pb = among_bounds 0x1161 21 b hb in
    let l : a - 0x1100 < 19 = omega (arith, pa) in
    let v : b - 0x1161 < 21 = omega (arith, pb) in
    let parts = index_of (a - 0x1100) (b - 0x1161) l v in
    let index : s - 0xAC00 ≡ (a - 0x1100) * 588 + (b - 0x1161) * 28 = omega (arith, e) in
    let zero : (s - 0xAC00) % 28 ≡ 0 = ap (λ (k : ℕ). k % 28) index ∙ parts.2 in
    let first : 0x1100 + (s - 0xAC00) / 588 ≡ a = ap (λ (k : ℕ). 0x1100 + k / 588) index ∙ ap (λ (k : ℕ). 0x1100 + k) parts.0 ∙ omega (arith, pa) in
    let second : 0x1161 + (s - 0xAC00) % 588 / 28 ≡ b = ap (λ (k : ℕ). 0x1161 + k % 588 / 28) index ∙ ap (λ (k : ℕ). 0x1161 + k) parts.1 ∙ omega (arith, pb) in (
      among_from_bounds 0xAC00 11172 s (omega (arith, e)) (omega (arith, e, l, v)),
      pair_of_lv s zero ∙ ap (λ (k : ℕ). k ∷ (0x1161 + (s - 0xAC00) % 588 / 28) ∷ []) first ∙ ap (λ (k : ℕ). a ∷ k ∷ []) second,
    )

-- an LV syllable and a trailing consonant have an LVT syllable
pub lvt_of_pair : (a b s : ℕ) → is_syllable a ≡ true → (a - 0xAC00) % 28 ≡ 0 → is_trailing_consonant b ≡ true
    → s ≡ a + (b - 0x11A7) → (is_syllable s ≡ true) × (syllable_pair s ≡ a ∷ b ∷ [])
lvt_of_pair a b s ha zero hb e =
    let pa = among_bounds 0xAC00 11172 a ha in
    let pb = among_bounds 0x11A8 27 b hb in
    let t : (s - 0xAC00) % 28 ≡ b - 0x11A7 = omega (arith, pa, pb, zero, e) in
    let some : (s - 0xAC00) % 28 ≢ 0 = λ none. omega (arith, pb, t, none) in
    let first : s - (s - 0xAC00) % 28 ≡ a = omega (arith, e, t) in
    let second : 0x11A7 + (s - 0xAC00) % 28 ≡ b = omega (arith, t, pb) in (
      among_from_bounds 0xAC00 11172 s (omega (arith, e, pa)) (omega (arith, e, pa, pb, zero)),
      pair_of_lvt s some ∙ ap (λ (k : ℕ). k ∷ (0x11A7 + (s - 0xAC00) % 28) ∷ []) first ∙ ap (λ (k : ℕ). a ∷ k ∷ []) second,
    )

-- what the pair of a syllable is made of
pub pair_kinds : (s a b : ℕ) → is_syllable s ≡ true → syllable_pair s ≡ a ∷ b ∷ []
    → ((is_leading_consonant a ≡ true) × (is_vowel b ≡ true) × (s ≡ 0xAC00 + (a - 0x1100) * 588 + (b - 0x1161) * 28))
    ⊎ ((is_lv_syllable a ≡ true) × (is_trailing_consonant b ≡ true) × (s ≡ a + (b - 0x11A7)))
pair_kinds s a b h e =
    let bounds = among_bounds 0xAC00 11172 s h in
    elim (cases_eq ((s - 0xAC00) % 28) 0) [
      | inl zero ↦
          let parts = sym (pair_of_lv s zero) ∙ e in
          let first = first_same _ _ _ _ parts in
          let second = second_same _ _ _ _ parts in
          let digits = index_parts (s - 0xAC00) zero in
          let few = index_bounds (s - 0xAC00) (omega (arith, bounds)) in
          inl (
            among_from_bounds 0x1100 19 a (omega (arith, first)) (omega (arith, first, few)),
            among_from_bounds 0x1161 21 b (omega (arith, second)) (omega (arith, second, few)),
            omega (arith, bounds, first, second, digits),
          )
      | inr some ↦
          let parts = sym (pair_of_lvt s some) ∙ e in
          let first = first_same _ _ _ _ parts in
          let second = second_same _ _ _ _ parts in
          let few = index_bounds (s - 0xAC00) (omega (arith, bounds)) in
          let lv : (a - 0xAC00) % 28 ≡ 0 = omega (arith, bounds, first) in
          inr (
            and_from _ _ (among_from_bounds 0xAC00 11172 a (omega (arith, bounds, first)) (omega (arith, bounds, first))) (eq-eqb ((a - 0xAC00) % 28) 0 lv),
            among_from_bounds 0x11A8 27 b (omega (arith, second, some)) (omega (arith, second, few)),
            omega (arith, first, second, bounds),
          )
    ]

-- a syllable maps to a pair
pub pair_exists : (s : ℕ) → (a : ℕ) × (b : ℕ) × (syllable_pair s ≡ a ∷ b ∷ [])
pair_exists s = elim (cases_eq ((s - 0xAC00) % 28) 0) [
  | inl zero ↦ (0x1100 + (s - 0xAC00) / 588, 0x1161 + (s - 0xAC00) % 588 / 28, pair_of_lv s zero)
  | inr some ↦ (s - (s - 0xAC00) % 28, 0x11A7 + (s - 0xAC00) % 28, pair_of_lvt s some)
]

-- both parts are scalar values below the surrogates
pub pair_small : (s a b : ℕ) → is_syllable s ≡ true → syllable_pair s ≡ a ∷ b ∷ [] → (a < 0xD800) × (b < 0xD800)
pair_small s a b h e = elim (pair_kinds s a b h e) [
  | inl lv ↦ (let p = among_bounds 0x1100 19 a lv.0 in omega (arith, p), let p = among_bounds 0x1161 21 b lv.1 in omega (arith, p))
  | inr lvt ↦ (let p = among_bounds 0xAC00 11172 a (and_parts _ _ lvt.0).0 in omega (arith, p), let p = among_bounds 0x11A8 27 b lvt.1 in omega (arith, p))
]

-- no pair is of both kinds
abbrev MakesLV : ℕ → ℕ → ℕ → Type 0
MakesLV s a b = (is_leading_consonant a ≡ true) × (is_vowel b ≡ true) × (s ≡ 0xAC00 + (a - 0x1100) * 588 + (b - 0x1161) * 28)

abbrev MakesLVT : ℕ → ℕ → ℕ → Type 0
MakesLVT s a b = (is_lv_syllable a ≡ true) × (is_trailing_consonant b ≡ true) × (s ≡ a + (b - 0x11A7))

kinds_apart : (s t a b : ℕ) → MakesLV s a b → MakesLVT t a b → ⊥
kinds_apart s t a b lv lvt =
    let p = among_bounds 0x1161 21 b lv.1 in
    let q = among_bounds 0x11A8 27 b lvt.1 in
    omega (arith, p, q)

same_from_kinds : (s t a b : ℕ) → MakesLV s a b ⊎ MakesLVT s a b → MakesLV t a b ⊎ MakesLVT t a b → s ≡ t
same_from_kinds s t a b (inl p) (inl q) = p.2 ∙ sym q.2
same_from_kinds s t a b (inl p) (inr q) = absurd (kinds_apart s t a b p q)
same_from_kinds s t a b (inr p) (inl q) = absurd (kinds_apart t s a b q p)
same_from_kinds s t a b (inr p) (inr q) = p.2 ∙ sym q.2

-- a syllable is known by its pair
pub pair_injective : (s t : ℕ) → is_syllable s ≡ true → is_syllable t ≡ true → syllable_pair s ≡ syllable_pair t → s ≡ t
pair_injective s t hs ht e =
    let pair = pair_exists t in
    same_from_kinds s t pair.0 pair.1 (pair_kinds s pair.0 pair.1 hs (e ∙ pair.2)) (pair_kinds t pair.0 pair.1 ht pair.2)

-- ---- the bodies' steps

pub lv_parts : (s l v : ℕ) → (s - 0xAC00) % 28 ≡ 0 → l ≡ 0x1100 + (s - 0xAC00) / 588 → v ≡ 0x1161 + (s - 0xAC00) % 588 / 28
    → syllable_pair s ≡ l ∷ v ∷ []
lv_parts s l v zero el ev =
    pair_of_lv s zero ∙ ap (λ (k : ℕ). k ∷ (0x1161 + (s - 0xAC00) % 588 / 28) ∷ []) (sym el) ∙ ap (λ (k : ℕ). l ∷ k ∷ []) (sym ev)

pub lvt_parts : (s lv t : ℕ) → (s - 0xAC00) % 28 ≢ 0 → lv ≡ s - (s - 0xAC00) % 28 → t ≡ 0x11A7 + (s - 0xAC00) % 28
    → syllable_pair s ≡ lv ∷ t ∷ []
lvt_parts s lv t some el et =
    pair_of_lvt s some ∙ ap (λ (k : ℕ). k ∷ (0x11A7 + (s - 0xAC00) % 28) ∷ []) (sym el) ∙ ap (λ (k : ℕ). lv ∷ k ∷ []) (sym et)

-- a pair of neither kind has no syllable
pub no_syllable : (a b : ℕ) → (is_leading_consonant a ≡ true → is_vowel b ≡ true → ⊥)
    → (is_syllable a ≡ true → (a - 0xAC00) % 28 ≡ 0 → is_trailing_consonant b ≡ true → ⊥)
    → (s : ℕ) → is_syllable s ≡ true → syllable_pair s ≡ a ∷ b ∷ [] → ⊥
no_syllable a b not_lv not_lvt s hs e = elim (pair_kinds s a b hs e) [
  | inl p ↦ not_lv p.0 p.1
  | inr p ↦ not_lvt (and_parts _ _ p.0).0 (eqb-true ((a - 0xAC00) % 28) 0 (and_parts _ _ p.0).1) p.1
]
