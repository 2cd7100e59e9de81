use Rattle.std.proofs.Common.{length}
use Rattle.np_lines.specs.Answers.{IsAnswerBy}
use Rattle.np_lines.specs.inside.Steps.{HasTaken}
use Rattle.np_lines.proofs.whole.take_all.Given as goal

abbrev pub invariant-pieces : goal.invariant-pieces
invariant-pieces g l = HasTaken (IsAnswerBy (g.K.LineKeys.is_key l.keys) (g.K.LineKeys.version l.keys) l.end) l.end l.fn.pending l.pending l.bytes l.rest

abbrev pub decreases-pieces : goal.decreases-pieces
decreases-pieces g l = length l.rest
