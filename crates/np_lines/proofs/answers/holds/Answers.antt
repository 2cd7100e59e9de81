use Rattle.std.proofs.Common.{sym, ◌∙◌}
use Rattle.np_lines.proofs.AnswerLemmas.{behind_none, behind_some}
use Rattle.np_lines.proofs.answers.holds.Goals as goal

pub returns-clause-some : goal.returns-clause-some
returns-clause-some c = λ is. behind_some c.args.byte c.args.bytes.now c.cut.result.1 c.cut.ensures.after (sym c.is_some.ensures ∙ is)

pub returns-clause-none : goal.returns-clause-none
returns-clause-none c = λ is. behind_none c.args.byte c.args.bytes.now c.cut.result.1 c.cut.ensures.after (sym c.is_some.ensures ∙ is)
