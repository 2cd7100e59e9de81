use Rattle.std.proofs.Common.{◌-◌, length}
use Rattle.np_code_points.specs.inside.LineCuts.{is_other, HasPassed}
use Rattle.np_code_points.proofs.lines.before_from.Given as goal

abbrev pub invariant-loop-at : goal.invariant-loop-at
invariant-loop-at l = HasPassed (is_other l.byte) l.bytes l.from l.at

abbrev pub decreases-loop-at : goal.decreases-loop-at
decreases-loop-at l = length l.bytes - l.at
