use Rattle.std.proofs.Common.{◌≡◌, ◌∙◌, IfOk, Some, string_bytes, subst, sym}
use Rattle.np_lines_job.specs.LineWords.{asked_of}
use Rattle.np_lines_job.proofs.LineMatchLemmas.{by_some}
use Rattle.np_lines_job.proofs.words.parse_lines.Goals as goal

pub returns-in_default-clause-ok : goal.returns-in_default-clause-ok
returns-in_default-clause-ok c =
    subst (λ o. IfOk c.parse_some.result (λ job. o ≡ Some (asked_of job))) (sym (by_some string_bytes c.args.words.now c.in_default.len_at_least)) c.parse_some.ensures.ok

pub returns-in_default-clause-usage : goal.returns-in_default-clause-usage
returns-in_default-clause-usage c = λ usage. by_some string_bytes c.args.words.now c.in_default.len_at_least ∙ c.parse_some.ensures.usage usage
