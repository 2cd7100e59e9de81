-- The table of hex digits.
use Rattle.std.proofs.Common.{◌≡◌, ℕ, ◌<◌, ◌≤◌, true, cond, eqb, get_or, refl, ap, ◌∙◌, arith, inl, inr}
use Rattle.std.specs.Char.{digit_value}
use Rattle.std.proofs.lemmas.Bool.{agree_below_at, cases_Bool, cond-true, cond-false, eqb-true, ltb-true}
use mir.Syntax.{w8}
use mir.Val.{Fits}
use Rattle.np_code_points.specs.Codes.{is_hex_digit}
use Rattle.np_code_points.specs.declared.codes.TheConstants.{HEX_VALUES}

-- what stands at a byte
abbrev stands : ℕ → ℕ
stands b = cond (is_hex_digit b) (digit_value b) 255

pub value_is : (byte at value : ℕ) → Fits w8 byte → at ≡ byte → value ≡ get_or HEX_VALUES at 0 → value ≡ stands byte
value_is byte at value fits same is =
    is ∙ ap (λ b. get_or HEX_VALUES b 0) same
    ∙ eqb-true _ _ (agree_below_at (λ b. eqb (get_or HEX_VALUES b 0) (stands b)) (λ _. true) 256 byte refl fits.fits)

pub below_16 : (byte value : ℕ) → value ≡ stands byte → value < 16 → (is_hex_digit byte ≡ true) × (value ≡ digit_value byte)
below_16 byte value h l = elim (cases_Bool (is_hex_digit byte)) [
  | inl hex ↦ (hex, h ∙ cond-true (is_hex_digit byte) (digit_value byte) 255 hex)
  | inr other ↦ absurd (omega (arith, h, cond-false (is_hex_digit byte) (digit_value byte) 255 other, l))
]

pub above_15 : (byte value : ℕ) → value ≡ stands byte → 16 ≤ value → is_hex_digit byte ≡ true → ⊥
above_15 byte value h l hex =
    omega (arith, h, cond-true (is_hex_digit byte) (digit_value byte) 255 hex, ltb-true (digit_value byte) 16 hex, l)
