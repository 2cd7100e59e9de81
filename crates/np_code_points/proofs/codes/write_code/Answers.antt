use Rattle.std.proofs.Common.{◌≡◌, ◌++◌, rules, ℕ, List, set, is_ok, string_bytes, if◌then◌else◌, map, drop, ◌-◌, subst, sym, ◌∙◌, ap, arith, ◌/◌}
use Rattle.std.specs.Int.Digits.{digits_of}
use Rattle.std.specs.Str.{IsAscii}
use Rattle.np_code_points.specs.Codes.{hex_digit}
use Rattle.np_code_points.proofs.CodeLemmas.{code_digits-ascii, code_written, front_kept, none_left, one_more_written, one_place_less}
use Rattle.np_code_points.proofs.codes.write_code.Goals as goal

pub loop-left-preserved : goal.loop-left-preserved
loop-left-preserved c =
    let fewer = one_place_less c.loop-left.left c.loop-left.at (omega arith) c.loop-left.invariant.bound in
    record {
      place = omega arith;
      room = search rules;
      front = front_kept c.loop-left.digits c.loop-left.at _ c.loop-left.invariant.front;
      bound = fewer.1;
      value = subst (λ (v : ℕ). map hex_digit (digits_of 16 (c.loop-left.left / 16)) ++ drop (c.loop-left.at - 1) (set c.loop-left.digits (c.loop-left.at - 1) v)
          ≡ map hex_digit (digits_of 16 c.args.code))
          (sym c.hex_digit.ensures)
          (one_more_written c.loop-left.digits _ c.loop-left.at c.loop-left.left (omega arith) fewer.0 (omega arith) c.loop-left.invariant.value);
    }

pub push_ascii-requires : goal.push_ascii-requires
push_ascii-requires c =
    subst IsAscii (sym (code_written c.loop-left.digits c.loop-left.at c.min.result c.args.code c.loop-left.invariant.room c.loop-left.invariant.place
    c.min.ensures c.loop-left.invariant.front (none_left c.loop-left.left _ _ (omega arith) c.loop-left.invariant.value)))
    (code_digits-ascii c.args.code)

pub returns : goal.returns
returns c =
    let written = code_written c.loop-left.digits c.loop-left.at c.min.result c.args.code c.loop-left.invariant.room c.loop-left.invariant.place
    c.min.ensures c.loop-left.invariant.front (none_left c.loop-left.left _ _ (omega arith) c.loop-left.invariant.value) in
    c.push_ascii.ensures ∙ ap (λ (l : List ℕ). if is_ok c.push_ascii.result then string_bytes c.args.out.now ++ l else string_bytes c.args.out.now) written
