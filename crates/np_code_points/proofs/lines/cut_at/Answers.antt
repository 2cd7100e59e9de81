use Rattle.std.proofs.Common.{arith}
use Rattle.np_code_points.proofs.PlaceLemmas.{cut_before, cut_nowhere, cut_after, cut_none}
use Rattle.np_code_points.proofs.lines.cut_at.Goals as goal

pub returns-then-at-bytes-clause-before : goal.returns-then-at-bytes-clause-before
returns-then-at-bytes-clause-before c = λ byte is. cut_before byte c.args.at c.args.bytes.now is

pub returns-then-at-bytes-clause-after : goal.returns-then-at-bytes-clause-after
returns-then-at-bytes-clause-after c = λ byte is. cut_after byte c.args.at c.args.bytes.now is (omega (arith, c.if-at-bytes.true))

pub returns-else-at-bytes-clause-before : goal.returns-else-at-bytes-clause-before
returns-else-at-bytes-clause-before c = λ byte is. cut_nowhere byte c.args.at c.args.bytes.now is (omega (arith, c.if-at-bytes.false))

pub returns-else-at-bytes-clause-after : goal.returns-else-at-bytes-clause-after
returns-else-at-bytes-clause-after c = λ byte is. cut_none byte c.args.at c.args.bytes.now is (omega (arith, c.if-at-bytes.false))
