use Rattle.std.proofs.Common.{◌+◌, ◌≤◌, length, arith}
use Rattle.std.proofs.lemmas.List.Sums.{count_by-le-length}
use Rattle.np_code_points.specs.inside.LineCuts.{is_byte}
use Rattle.np_code_points.proofs.CountLemmas.{step_counted, last_counted}
use Rattle.np_code_points.proofs.lines.counted_by_steps.Goals as goal

pub overflow_add-count : goal.overflow_add-count
overflow_add-count c =
    let all = count_by-le-length (is_byte c.args.byte) c.args.bytes.now in
    let more = step_counted (is_byte c.args.byte) c.args.bytes.now c.loop-at.at 16 in
    omega (arith, all, more, c.counted_in_step-count.ensures, c.loop-at.invariant.counted)

pub loop-at-preserved : goal.loop-at-preserved
loop-at-preserved c =
    let room : c.loop-at.at + 16 ≤ length c.args.bytes.now = omega arith in
    record {
      within = room;
      counted = omega (arith, step_counted (is_byte c.args.byte) c.args.bytes.now c.loop-at.at 16, c.counted_in_step-count.ensures, c.loop-at.invariant.counted);
    }

pub returns : goal.returns
returns c =
    let last = last_counted (is_byte c.args.byte) c.args.bytes.now c.loop-at.at 16 (omega (arith, c.requires.long)) (omega (arith, c.loop-at.invariant.within)) (omega (arith, c.loop-at-test.false)) in
    omega (arith, last, c.counted_in_step.ensures, c.loop-at.invariant.counted)
