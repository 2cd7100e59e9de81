-- Numbers, as `parse` reads them.
use Rattle.std.proofs.Common.{◌≡◌, ◌≢◌, ℕ, ◌<◌, ◌≤◌, ◌^◌, true, false, ◌&&◌, eqb, List, [], ◌∷◌, length, get_or, Some, None, Ok, Err, Result, sym, ap, ◌∙◌, arith}
use Rattle.std.specs.Char.{is_ascii_digit}
use Rattle.std.specs.Result.{OkIff, result_ok}
use Rattle.std.specs.Str.{IsAscii, IsUtf8, all_ascii_digits}
use Rattle.std.specs.Str.Parse.{ParsesUnsigned, digits_value}
use Rattle.std.proofs.lemmas.Bool.{cond-true, cond-false, and_from, and_left, and_right, lt-leb, le-leb, eqb-true, true≢false, false_from_ne_true}
use Rattle.std.proofs.lemmas.Str.{IsUtf8-from_ascii}
use Rattle.std.proofs.lemmas.Str.Ascii.{IsAscii-from_reads}
use Rattle.std.proofs.lemmas.Str.Parse.{IsNumeralModel, numerals_by_value, tells_all_ascii_digits, parse_plain, digits_value_short, digit_at}
use Rattle.np_schedules.specs.inside.LineValues.{is_number, number_value}

own : IsNumeralModel (λ ds. all_ascii_digits ds ≡ true) (digits_value 10)
own = numerals_by_value _ tells_all_ascii_digits

none_from : (word : List ℕ) → is_number word ≡ false → number_value word ≡ None
unfolding number_value
none_from word h = cond-false (is_number word) (Some (digits_value 10 word)) None h

pub number_empty : (word : List ℕ) → eqb (length word) 0 ≡ true → number_value word ≡ None
number_empty word h =
    let empty = eqb-true (length word) 0 h in
    none_from word (and_left _ _ (and_left _ _ (lt-leb 1 (length word) (omega (arith, empty)))))

pub number_long : (word : List ℕ) → 9 < length word → number_value word ≡ None
number_long word h = none_from word (and_left _ _ (and_right _ _ (lt-leb (length word) 9 h)))

number_other : (word : List ℕ) → (all_ascii_digits word ≡ true → ⊥) → number_value word ≡ None
number_other word h = none_from word (and_right _ _ (false_from_ne_true (all_ascii_digits word) h))

some_of : (word : List ℕ) → eqb (length word) 0 ≡ false → 1 ≤ length word
some_of [] h = absurd (true≢false h)
some_of (x ∷ xs) h = omega arith

plus_false : (word : List ℕ) → 1 ≤ length word → get_or word 0 0 ≡ 43 → all_ascii_digits word ≡ false
plus_false [] some h = absurd (omega arith)
plus_false (x ∷ xs) some h = ap (λ b. is_ascii_digit b && all_ascii_digits xs) h

-- a plus stands in front of no number
pub number_plus : (word : List ℕ) → eqb (length word) 0 ≡ false → get_or word 0 0 ≡ 43 → number_value word ≡ None
number_plus word filled h = none_from word (and_right _ _ (plus_false word (some_of word filled) h))

digits_are_ascii : (word : List ℕ) → all_ascii_digits word ≡ true → IsAscii word
digits_are_ascii word h =
    IsAscii-from_reads word (length word) (omega arith)
    (λ k lt. let digit = digit_at word k (own.to word h) lt in omega (arith, digit.1))

-- a number is text
pub number_no_text : (word : List ℕ) → (IsUtf8 word → ⊥) → number_value word ≡ None
number_no_text word h = number_other word (λ digits. h (IsUtf8-from_ascii word (digits_are_ascii word digits)))

parsed : {E : Type 0} (word : List ℕ) (r : Result ℕ E) → 1 ≤ length word → length word ≤ 9 → OkIff r ((all_ascii_digits word ≡ true) × (0 < length word) × (digits_value 10 word < 2 ^ 32)) (digits_value 10 word) → result_ok r ≡ number_value word
unfolding number_value
parsed word (Ok n) some few h =
    ap Some h.1
    ∙ sym (cond-true (is_number word) (Some (digits_value 10 word)) None
    (and_from _ _ (and_from _ _ (le-leb 1 (length word) some) (le-leb (length word) 9 few)) h.0.0))
parsed word (Err e) some few h =
    sym (number_other word (λ digits. h (
      digits,
      omega arith,
      let short = digits_value_short own word 9 digits few in omega (arith, short),
    )))

-- what `parse` reads of a short word without a plus is the number
pub number_parsed : {E : Type 0} (word : List ℕ) (r : Result ℕ E) → eqb (length word) 0 ≡ false → length word ≤ 9 → get_or word 0 0 ≢ 43 → ParsesUnsigned 32 10 word r → result_ok r ≡ number_value word
number_parsed word r filled few plain h = parsed word r (some_of word filled) few (parse_plain own 32 word r h plain)
