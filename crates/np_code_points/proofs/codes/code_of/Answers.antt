use Rattle.std.proofs.Common.{◌≡◌, ◌↔◌, ℕ, List, Option, None, IsNone, IfSome, false, ◌<◌, sym, arith, length, Some}
use Rattle.np_code_points.specs.Codes.{is_code, code_value}
use Rattle.np_code_points.proofs.CodeLemmas.{above_in_all, answer_bound, none_exactly, below_five, code_value-long, code_value-short, digit_at, digit_below, found_in_all, no_digit_at, one_more_digit, value_at}
use Rattle.np_code_points.proofs.codes.code_of.Goals as goal
use Rattle.np_code_points.proofs.codes.code_of.Goals.{then-bytes-lt4-via-then-bytes-lt4, then-bytes-lt4-via-else-bytes-lt4+then-bytes-gt6}

answers : (bs : List ℕ) (r : Option ℕ) (e : r ≡ code_value bs)
    → record { value : r ≡ code_value bs; none : IsNone r ↔ (is_code bs ≡ false); bound : IfSome r (λ code. code < 0x110000) }
answers bs r e = record { value = e; none = none_exactly bs r e; bound = answer_bound bs r e }

pub returns-then-bytes-lt4 : goal.returns-then-bytes-lt4
returns-then-bytes-lt4 c = elim c.then-bytes-lt4.branch [
  | then-bytes-lt4-via-then-bytes-lt4 w ↦ answers c.args.bytes.now None (sym (code_value-short _ w.if-bytes-lt4.true))
  | then-bytes-lt4-via-else-bytes-lt4+then-bytes-gt6 w ↦ answers c.args.bytes.now None (sym (code_value-long _ w.if-bytes-gt6.true))
]

pub returns-in_err-digit : goal.returns-in_err-digit
returns-in_err-digit c = answers c.args.bytes.now c.from_residual.result
    (rw c.from_residual.ensures
    (sym (no_digit_at c.args.bytes.now c.loop-byte.byte-index (omega arith) c.in_err-digit.ensures)))

pub overflow_mul-code : goal.overflow_mul-code
overflow_mul-code c =
    let small = below_five c.loop-byte.code c.loop-byte.byte-index c.loop-byte.invariant.bound (omega arith) in omega (arith, small)

pub overflow_add-code : goal.overflow_add-code
overflow_add-code c =
    let small = below_five c.loop-byte.code c.loop-byte.byte-index c.loop-byte.invariant.bound (omega arith) in
    let digit : c.in_ok-digit.digit < 16 = digit_below c.args.bytes.now c.loop-byte.byte-index c.in_ok-digit.digit c.in_ok-digit.ensures.0 c.in_ok-digit.ensures.1 in
    omega (arith, small)

pub loop-byte-preserved : goal.loop-byte-preserved
loop-byte-preserved c =
    let lt : c.loop-byte.byte-index < length c.args.bytes.now = omega arith in
    record {
      value = value_at c.args.bytes.now c.loop-byte.byte-index c.in_ok-digit.digit c.loop-byte.code lt
          c.loop-byte.invariant.value c.in_ok-digit.ensures.1;
      hex = digit_at c.args.bytes.now c.loop-byte.byte-index lt c.loop-byte.invariant.hex c.in_ok-digit.ensures.0;
      bound = one_more_digit c.loop-byte.code c.in_ok-digit.digit c.loop-byte.byte-index c.loop-byte.invariant.bound
          (digit_below c.args.bytes.now c.loop-byte.byte-index c.in_ok-digit.digit c.in_ok-digit.ensures.0 c.in_ok-digit.ensures.1);
    }

pub returns-then-code-le1114111 : goal.returns-then-code-le1114111
returns-then-code-le1114111 c = answers c.args.bytes.now (Some c.loop-byte.code)
    (sym (found_in_all c.args.bytes.now c.loop-byte.byte-index c.loop-byte.code (omega arith) (omega arith) (omega arith)
    c.loop-byte.invariant.hex c.loop-byte.invariant.value (omega arith)))

pub returns-else-code-le1114111 : goal.returns-else-code-le1114111
returns-else-code-le1114111 c = answers c.args.bytes.now None
    (sym (above_in_all c.args.bytes.now c.loop-byte.byte-index c.loop-byte.code (omega arith) c.loop-byte.invariant.value (omega arith)))
