use Rattle.std.proofs.Common.{◌-◌, length, arith}
use Rattle.np_code_points.proofs.LineLemmas.{returned_yes, returned_no, returned_nil}
use Rattle.np_code_points.proofs.lines.without_return.Goals as goal
use Rattle.np_code_points.proofs.lines.without_return.Goals.{else-len-gt0-via-then-len-gt0+else-line-len-eq13, else-len-gt0-via-else-len-gt0}

pub returns-then-line-len-eq13 : goal.returns-then-line-len-eq13
returns-then-line-len-eq13 c =
    returned_yes (length c.args.line.now - 1) c.args.line.now (omega arith) c.if-line-len-eq13.true

pub returns-else-len-gt0 : goal.returns-else-len-gt0
returns-else-len-gt0 c = elim c.else-len-gt0.branch [
  | else-len-gt0-via-then-len-gt0+else-line-len-eq13 w ↦ returned_no (length c.args.line.now - 1) c.args.line.now (omega arith) w.if-line-len-eq13.false
  | else-len-gt0-via-else-len-gt0 w ↦ returned_nil c.args.line.now (omega arith)
]
