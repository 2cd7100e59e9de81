use Rattle.std.proofs.Common.{length}
use Rattle.np_lines.specs.Answers.{IsAnswerBy}
use Rattle.np_lines.specs.inside.Steps.{HasTaken}
use Rattle.np_lines.proofs.pending.Pending.take_bytes.Given as goal

abbrev pub invariant-lines : goal.invariant-lines
invariant-lines g l = HasTaken (IsAnswerBy (g.K.LineKeys.is_key l.keys) (g.K.LineKeys.version l.keys) l.end) l.end l.fn.self l.self l.bytes l.rest

abbrev pub decreases-lines : goal.decreases-lines
decreases-lines g l = length l.rest
