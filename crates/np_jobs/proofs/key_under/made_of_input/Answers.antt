use Rattle.std.proofs.Common.{inl, inr, string_bytes}
use Rattle.std.proofs.lemmas.Result.{IfErr-weaker, IfOk-weaker, err_from_is_err_and}
use Rattle.np_jobs.specs.declared.ending.JobOutput.{JobOutput}
use Rattle.np_jobs.proofs.key_under.made_of_input.Goals as goal

pub returns-in_err-text-clause-refused : goal.returns-in_err-text-clause-refused
returns-in_err-text-clause-refused g c =
    let no_text = c.in_err-text.ensures.refused in
    let p = err_from_is_err_and c.from_residual.result c.from_residual.ensures.1 in
    rw (p.1, p.2) (inl no_text)

pub returns-clause-made : goal.returns-clause-made
returns-clause-made g c =
    IfOk-weaker c.make_own.result _ _
    (λ (m : JobOutput) makes. record {
      text = string_bytes c.in_ok-text.text;
      read = c.in_ok-text.ensures.read;
      valid = c.in_ok-text.ensures.valid;
      makes = makes;
    })
    c.make_own.ensures.own

pub returns-clause-refused : goal.returns-clause-refused
returns-clause-refused g c =
    IfErr-weaker c.make_own.result _ _
    (λ fault lacks. inr (string_bytes c.in_ok-text.text, c.in_ok-text.ensures.read, c.in_ok-text.ensures.valid, lacks))
    c.make_own.ensures.refused
