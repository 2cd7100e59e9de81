-- Characters of several bytes, and the lowest bit of a mask of those that begin one.
use Rattle.std.proofs.Common.{◌≡◌, ◌≢◌, ℕ, zero, suc, ◌+◌, ◌-◌, ◌*◌, ◌/◌, ◌%◌, ◌<◌, ◌≤◌, ◌^◌, List, bit_and, sym, ap, ◌∙◌, arith, inl, inr, pow_pos}
use Rattle.np_tables.proofs.Words.{BeginsWithChar, cases_lt, count_trailing_zeros, div-div-eq-div-mul, div-one}
use Rattle.np_versions.proofs.Utf8Lemmas.{BeginsWith}
use Rattle.std.proofs.Math.Nat.{two-pow-succ}
use Rattle.std.proofs.lemmas.Nat.{and_block}
use Rattle.std.proofs.lemmas.Nat.Bits.{bit_at-suc, bit_at-trailing_zeros, bit_at-zero, bit_at_cat_high, bit_at_cat_low, bit_at_lowest}
use Rattle.std.specs.Int.{bit_at}
use Rattle.std.specs.Int.Bits.{and_self, and_zero_l}
use lib.Utf8.{scalar_cases}
use mir.Syntax.{w64}

-- a first character, as it is read
pub begins_char : (text : List ℕ) (count code : ℕ) → 1 < count → count ≤ 4 → BeginsWith text count code → BeginsWithChar text code count
begins_char text count code some few begins = record { parts = begins.parts; some = some; few = few; long = begins.long; scalar = grind (arith, scalar_cases code begins.scalar) }

-- ---- a number without its lowest bit

-- where no bit is below t, it is that many times doubled
doubled : (t b : ℕ) → ((i : ℕ) → i < t → bit_at b i ≡ 0) → b ≡ b / 2 ^ t * 2 ^ t
doubled zero b none = omega (arith, div-one b)
doubled (suc t) b none =
    let half = doubled t (b / 2) (λ i lt. sym (bit_at-suc b i) ∙ none (suc i) (omega (arith, lt))) in
    let even = sym (bit_at_lowest b) ∙ none 0 (omega arith) in
    let twice : 2 ^ suc t ≡ 2 * 2 ^ t = omega (arith, two-pow-succ t) in
    let same : b / 2 / 2 ^ t ≡ b / 2 ^ suc t = div-div-eq-div-mul b 2 (2 ^ t) ∙ ap (λ n. b / n) (sym twice) in
    let parts : b ≡ 2 * (b / 2 ^ suc t * 2 ^ t) = omega (arith, even, half, ap (λ n. n * 2 ^ t) same) in
    parts ∙ omega (arith, ap (λ n. b / 2 ^ suc t * n) twice)

module _ (b : ℕ) (some : 0 < b) (small : b < 2 ^ 64) where
  abbrev t : ℕ
  t = count_trailing_zeros 64 b

  -- how often its lowest bit goes into it
  abbrev m : ℕ
  m = b / 2 ^ t

  is : b ≡ m * 2 ^ t
  is = doubled t b (bit_at-trailing_zeros w64 b some small).2

  odd : m % 2 ≡ 1
  odd = (bit_at-trailing_zeros w64 b some small).1

  without_lowest : bit_and b (b - 1) ≡ (m - 1) * 2 ^ t + 0
  without_lowest =
      let h = m / 2 in
      let positive = pow_pos t in
      let whole : b ≡ m * 2 ^ t + 0 = omega (arith, is) in
      let next : m ≡ suc (m - 1) = omega (arith, odd) in
      let less : b - 1 ≡ (m - 1) * 2 ^ t + (2 ^ t - 1) = omega (arith, is, positive, ap (λ n. n * 2 ^ t) next) in
      let one : m ≡ h * 2 ^ 1 + 1 = omega (arith, odd) in
      let other : m - 1 ≡ h * 2 ^ 1 + 0 = omega (arith, odd) in
      let high : bit_and m (m - 1) ≡ m - 1 = ap (λ n. bit_and n (m - 1)) one ∙ ap (bit_and (h * 2 ^ 1 + 1)) other ∙ and_block 1 h h 1 0 (omega arith) (omega arith) ∙ omega (arith, and_self h, other) in
      ap (λ n. bit_and n (b - 1)) whole ∙ ap (bit_and (m * 2 ^ t + 0)) less ∙ and_block t m (m - 1) 0 (2 ^ t - 1) (omega (arith, positive)) (omega (arith, positive))
      ∙ omega (arith, and_zero_l (2 ^ t - 1), ap (λ n. n * 2 ^ t) high)

  pub lowest_gone : bit_at (bit_and b (b - 1)) t ≡ 0
  lowest_gone =
      let none : t - t ≡ 0 = omega arith in
      ap (λ n. bit_at n t) without_lowest ∙ bit_at_cat_high (m - 1) t 0 t (pow_pos t) (omega arith) ∙ ap (bit_at (m - 1)) none ∙ bit_at_lowest (m - 1) ∙ omega (arith, odd)

  pub others_kept : (k : ℕ) → k ≢ t → bit_at (bit_and b (b - 1)) k ≡ bit_at b k
  others_kept k other =
      elim (cases_lt k t) [
        | inl less ↦
            (ap (λ n. bit_at n k) without_lowest ∙ bit_at_cat_low (m - 1) t 0 k less ∙ bit_at-zero k) ∙ sym ((bit_at-trailing_zeros w64 b some small).2 k less)
        | inr more ↦
            let j = k - t - 1 in
            let place : k - t ≡ suc j = omega (arith, more, other) in
            let whole : b ≡ m * 2 ^ t + 0 = omega (arith, is) in
            let halves : (m - 1) / 2 ≡ m / 2 = omega (arith, odd) in
            (ap (λ n. bit_at n k) without_lowest ∙ bit_at_cat_high (m - 1) t 0 k (pow_pos t) more ∙ ap (bit_at (m - 1)) place ∙ bit_at-suc (m - 1) j ∙ ap (λ n. bit_at n j) halves)
            ∙ sym (ap (λ n. bit_at n k) whole ∙ bit_at_cat_high m t 0 k (pow_pos t) more ∙ ap (bit_at m) place ∙ bit_at-suc m j)
      ]
