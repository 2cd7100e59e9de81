use Rattle.std.proofs.Common.{◌≤◌, ◌+◌, length, arith}
use Rattle.np_code_points.specs.inside.LineCuts.{is_other}
use Rattle.np_code_points.proofs.PlaceLemmas.{step_passes, step_finds, run_le}
use Rattle.np_code_points.proofs.lines.before_by_steps.Goals as goal

pub returns-then-passed-clause-found : goal.returns-then-passed-clause-found
returns-then-passed-clause-found g c =
    let found = step_finds (is_other c.args.byte) c.args.bytes.now c.loop-at.at g.row.N (omega arith) (omega (arith, c.before_in_step-passed.ensures, c.if-passed.true)) in
    omega (arith, found, c.before_in_step-passed.ensures, c.loop-at.invariant.passed)

pub loop-at-preserved : goal.loop-at-preserved
loop-at-preserved g c =
    let room : c.loop-at.at + g.row.N ≤ length c.args.bytes.now = omega arith in
    let short = run_le (is_other c.args.byte) c.args.bytes.now c.loop-at.at g.row.N room in
    let more = step_passes (is_other c.args.byte) c.args.bytes.now c.loop-at.at g.row.N room (omega (arith, short, c.before_in_step-passed.ensures, c.if-passed.false)) in
    record {
      within = room;
      passed = omega (arith, more, c.loop-at.invariant.passed);
    }
