use Rattle.np_caseless.specs.Caseless.{IsCaseless}
use Rattle.np_caseless.proofs.KeyLemmas.{one_key}
use Rattle.np_lines.proofs.LawLemmas.{answers_are_lines_by, one_answer_by}
use Rattle.std.proofs.Common.{chars}
use Rattle.np_caseless_lines.proofs.laws.answers.Goals as goal

pub returns-clause-one : goal.returns-clause-one
returns-clause-one c = λ v wanted line sound. one_answer_by (IsCaseless v wanted.form) v.version wanted.end line (one_key v wanted.form (chars line) sound)

pub returns-clause-lines : goal.returns-clause-lines
returns-clause-lines c = λ v wanted lines answers are. answers_are_lines_by (IsCaseless v wanted.form) v.version wanted.end lines answers are
