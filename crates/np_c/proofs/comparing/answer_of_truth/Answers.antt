use Rattle.std.proofs.Common.{sym, ap, ◌∙◌}
use Rattle.np_c.specs.inside.FaultAnswers.{told_answer}
use Rattle.np_c.proofs.comparing.answer_of_truth.Goals as goal

pub returns-then-yes : goal.returns-then-yes
returns-then-yes c = c.of.ensures ∙ ap told_answer (sym c.if-yes.true)

pub returns-else-yes : goal.returns-else-yes
returns-else-yes c = c.of-else-yes.ensures ∙ ap told_answer (sym c.if-yes.false)
