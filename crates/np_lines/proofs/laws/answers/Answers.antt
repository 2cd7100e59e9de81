use Rattle.np_lines.proofs.LawLemmas.{answers_are_lines, one_answer}
use Rattle.np_lines.proofs.laws.answers.Goals as goal

pub returns-clause-one : goal.returns-clause-one
returns-clause-one c = one_answer

pub returns-clause-lines : goal.returns-clause-lines
returns-clause-lines c = answers_are_lines
