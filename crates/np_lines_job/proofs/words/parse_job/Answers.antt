use Rattle.std.proofs.Common.{◌≡◌, ◌∙◌, None, Some, IfOk, ap, map, string_bytes, subst}
use Rattle.np_habits.specs.FormWords.{plain_of}
use Rattle.np_lines_job.specs.LineWords.{asked_among, asked_of}
use Rattle.np_lines_job.proofs.words.parse_job.Goals as goal

pub returns-in-Ok-clause-ok : goal.returns-in-Ok-clause-ok
returns-in-Ok-clause-ok c =
    let same : map string_bytes c.as_slice.result.now ≡ plain_of (map string_bytes c.args.words.now) = ap (map string_bytes) c.as_slice.ensures.value ∙ c.in-Ok.ensures in
    subst (λ l. IfOk c.parse_plain.result (λ job. asked_among l ≡ Some (asked_of job))) same c.parse_plain.ensures.ok

pub returns-in-Ok-clause-usage : goal.returns-in-Ok-clause-usage
returns-in-Ok-clause-usage c = λ usage.
    let same : map string_bytes c.as_slice.result.now ≡ plain_of (map string_bytes c.args.words.now) = ap (map string_bytes) c.as_slice.ensures.value ∙ c.in-Ok.ensures in
    subst (λ l. asked_among l ≡ None) same (c.parse_plain.ensures.usage usage)
