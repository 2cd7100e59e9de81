use Rattle.std.proofs.Common.{◌+◌, arith}
use Rattle.np_versions.proofs.AsciiLemmas.{lanes_ascii, lanes_end, low_take, quick_check_le}
use Rattle.np_versions.proofs.ascii_runs.ascii_front.Goals as goal

pub returns-then-passed-lt-LANES-clause-ascii : goal.returns-then-passed-lt-LANES-clause-ascii
returns-then-passed-lt-LANES-clause-ascii c =
    low_take (c.loop-at.at + c.ascii_in_lanes-passed.result) c.args.bytes.now
    (lanes_ascii c.args.bytes.now c.loop-at.at c.ascii_in_lanes-passed.result (omega arith) c.ascii_in_lanes-passed.ensures c.loop-at.invariant.1)

pub loop-at-preserved : goal.loop-at-preserved
loop-at-preserved c =
    let all = lanes_ascii _ c.loop-at.at _ (omega arith) c.ascii_in_lanes-passed.ensures c.loop-at.invariant.1 in
    let le = quick_check_le _ c.loop-at.at _ (omega arith) c.ascii_in_lanes-passed.ensures in
    (omega arith, λ k lt. all k (omega (arith, lt, le, c.if-passed-lt-LANES.false)))

pub returns-then-passed-lt-LANES-clause-whole : goal.returns-then-passed-lt-LANES-clause-whole
returns-then-passed-lt-LANES-clause-whole c =
    λ _. lanes_end c.args.bytes.now c.loop-at.at c.ascii_in_lanes-passed.result (omega arith) c.ascii_in_lanes-passed.ensures (omega arith)
