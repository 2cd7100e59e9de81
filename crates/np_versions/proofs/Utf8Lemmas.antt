-- The bytes of a character, by how many it has.
use Rattle.std.proofs.Common.{◌≡◌, ℕ, ◌+◌, ◌*◌, ◌/◌, ◌%◌, ◌<◌, ◌≤◌, true, List, [], ◌∷◌, ◌++◌, length, get_or, drop, length-append, encode_utf8_all, IsUtf8, refl, sym, ap, subst, ◌∙◌, arith, inl, inr}
use Rattle.np_versions.proofs.Words.{and_parts, cases_lt, cond-false, cond-true, le-ltb, lt-ltb, drop_at, IsCharBoundary-at_seam, IsScalar, IsCharBoundary}
use Rattle.std.specs.Char.{encode_utf8}
use lib.Utf8.{scalars}

pub encode_one : (c : ℕ) → c < 0x80 → encode_utf8 c ≡ c ∷ []
unfolding encode_utf8
encode_one c low = cond-true _ _ _ (lt-ltb c 128 low)

pub encode_two : (c : ℕ) → 0x80 ≤ c → c < 0x800 → encode_utf8 c ≡ (192 + c / 64) ∷ (128 + c % 64) ∷ []
unfolding encode_utf8
encode_two c low high = cond-false _ _ _ (le-ltb c 128 low) ∙ cond-true _ _ _ (lt-ltb c 2048 high)

pub encode_three : (c : ℕ) → 0x800 ≤ c → c < 0x10000 → encode_utf8 c ≡ (224 + c / 4096) ∷ (128 + c / 64 % 64) ∷ (128 + c % 64) ∷ []
unfolding encode_utf8
encode_three c low high =
    cond-false _ _ _ (le-ltb c 128 (omega arith)) ∙ cond-false _ _ _ (le-ltb c 2048 low) ∙ cond-true _ _ _ (lt-ltb c 65536 high)

pub encode_four : (c : ℕ) → 0x10000 ≤ c → encode_utf8 c ≡ (240 + c / 262144) ∷ (128 + c / 4096 % 64) ∷ (128 + c / 64 % 64) ∷ (128 + c % 64) ∷ []
unfolding encode_utf8
encode_four c low =
    cond-false _ _ _ (le-ltb c 128 (omega arith)) ∙ cond-false _ _ _ (le-ltb c 2048 (omega arith)) ∙ cond-false _ _ _ (le-ltb c 65536 low)

-- ---- a text that begins with a character of two or three bytes

-- the first `count` bytes are the character `code`
pub record BeginsWith (text : List ℕ) (count code : ℕ) : Type 0 where
  pub scalar : IsScalar code
  pub parts : text ≡ encode_utf8 code ++ drop count text
  pub long : count ≤ length text
  pub cut : IsCharBoundary text count

-- the bytes `front` are the character k
begins_from : (text : List ℕ) (k : ℕ) (front rest : List ℕ) (count code : ℕ) → IsScalar k → IsUtf8 rest → encode_utf8 k ≡ front → length front ≡ count → k ≡ code → text ≡ front ++ rest → BeginsWith text count code
begins_from text k front rest count code scalar utf8 encoded size same e =
    let behind : drop count text ≡ rest = ap (λ n. drop n text) (sym size) ∙ ap (drop (length front)) e ∙ drop_at front rest (length front) refl in
    record {
      scalar = subst IsScalar same scalar;
      parts = e ∙ ap (λ l. l ++ rest) (sym encoded ∙ ap encode_utf8 same) ∙ ap (λ l. encode_utf8 code ++ l) (sym behind);
      long = omega (arith, ap length e, length-append front rest, size);
      cut = subst (IsCharBoundary text) size (IsCharBoundary-at_seam text front rest e utf8);
    }

-- by how many bytes the first character has
by_size : (text : List ℕ) → IsUtf8 text → 0 < get_or text 0 0 → (P : Type 0)
    → ((k : ℕ) (rest : List ℕ) → k < 0x80 → text ≡ k ∷ rest → P)
    → ((k : ℕ) (rest : List ℕ) → 0x80 ≤ k → k < 0x800 → IsScalar k → IsUtf8 rest → text ≡ (192 + k / 64) ∷ (128 + k % 64) ∷ rest → P)
    → ((k : ℕ) (rest : List ℕ) → 0x800 ≤ k → k < 0x10000 → IsScalar k → IsUtf8 rest → text ≡ (224 + k / 4096) ∷ (128 + k / 64 % 64) ∷ (128 + k % 64) ∷ rest → P)
    → ((k : ℕ) (rest : List ℕ) → 0x10000 ≤ k → text ≡ (240 + k / 262144) ∷ (128 + k / 4096 % 64) ∷ (128 + k / 64 % 64) ∷ (128 + k % 64) ∷ rest → P)
    → P
by_size text utf8 some P one two three four = of utf8.0 utf8.1.0 utf8.1.1
  where
    of : (ks : List ℕ) → scalars ks ≡ true → encode_utf8_all ks ≡ text → P
    of [] are e = absurd (omega (arith, some, ap (λ l. get_or l 0 0) (sym e)))
    of (k ∷ ks) are e =
        let rest = encode_utf8_all ks in
        let parts = and_parts _ _ are in
        let utf8_rest : IsUtf8 rest = (ks, (parts.1, refl)) in
        elim (cases_lt k 0x800) [
          | inl few ↦
              elim (cases_lt k 0x80) [
                | inl single ↦ one k rest single (sym e ∙ ap (λ l. l ++ rest) (encode_one k single))
                | inr more ↦ two k rest more few parts.0 utf8_rest (sym e ∙ ap (λ l. l ++ rest) (encode_two k more few))
              ]
          | inr more ↦
              elim (cases_lt k 0x10000) [
                | inl few ↦ three k rest more few parts.0 utf8_rest (sym e ∙ ap (λ l. l ++ rest) (encode_three k more few))
                | inr most ↦ four k rest most (sym e ∙ ap (λ l. l ++ rest) (encode_four k most))
              ]
        ]

first_byte : (text rest : List ℕ) (x : ℕ) → text ≡ x ∷ rest → get_or text 0 0 ≡ x
first_byte text rest x e = ap (λ l. get_or l 0 0) e

pub begins_with_two : (text : List ℕ) → IsUtf8 text → get_or text 0 0 / 32 ≡ 6 → BeginsWith text 2 (get_or text 0 0 % 32 * 64 + get_or text 1 0 % 64)
begins_with_two text utf8 lead_byte =
    by_size text utf8 (omega (arith, lead_byte)) (BeginsWith text 2 (get_or text 0 0 % 32 * 64 + get_or text 1 0 % 64))
    (λ k rest low e. absurd (omega (arith, lead_byte, low, first_byte text _ _ e)))
    (λ k rest low high scalar of_rest e. begins_from text k ((192 + k / 64) ∷ (128 + k % 64) ∷ []) rest 2 _ scalar of_rest (encode_two k low high) refl
    (omega (arith, low, high, first_byte text _ _ e, ap (λ l. get_or l 1 0) e)) e)
    (λ k rest low high scalar of_rest e. absurd (omega (arith, lead_byte, low, first_byte text _ _ e)))
    (λ k rest low e. absurd (omega (arith, lead_byte, low, first_byte text _ _ e)))

pub begins_with_three : (text : List ℕ) → IsUtf8 text → get_or text 0 0 / 16 ≡ 14 → BeginsWith text 3 (get_or text 0 0 % 16 * 4096 + get_or text 1 0 % 64 * 64 + get_or text 2 0 % 64)
begins_with_three text utf8 lead_byte =
    by_size text utf8 (omega (arith, lead_byte)) (BeginsWith text 3 (get_or text 0 0 % 16 * 4096 + get_or text 1 0 % 64 * 64 + get_or text 2 0 % 64))
    (λ k rest low e. absurd (omega (arith, lead_byte, low, first_byte text _ _ e)))
    (λ k rest low high scalar of_rest e. absurd (omega (arith, lead_byte, high, first_byte text _ _ e)))
    (λ k rest low high scalar of_rest e. begins_from text k ((224 + k / 4096) ∷ (128 + k / 64 % 64) ∷ (128 + k % 64) ∷ []) rest 3 _ scalar of_rest (encode_three k low high) refl
    (omega (arith, low, high, first_byte text _ _ e, ap (λ l. get_or l 1 0) e, ap (λ l. get_or l 2 0) e)) e)
    (λ k rest low e. absurd (omega (arith, lead_byte, low, first_byte text _ _ e)))
