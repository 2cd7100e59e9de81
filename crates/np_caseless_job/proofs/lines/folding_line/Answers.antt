use Rattle.std.proofs.Common.{◌∙◌}
use Rattle.np_caseless_job.proofs.LineLemmas.{with_line, without_line}
use Rattle.np_caseless_job.proofs.lines.folding_line.Goals as goal

pub returns-in_ok-format-in-Some : goal.returns-in_ok-format-in-Some
returns-in_ok-format-in-Some c =
    record {
      line = c.in_ok-format-in-Some.ensures.ok ∙ with_line c.args.version c.in-Some.line c.name-name.result.now c.args.fault.now c.in-Some.ensures c.name-name.ensures;
    }

pub returns-in_ok-format-in-None : goal.returns-in_ok-format-in-None
returns-in_ok-format-in-None c =
    record {
      line = c.in_ok-format-in-None.ensures.ok ∙ without_line c.args.version c.name-name.result.now c.args.fault.now c.in-None.ensures c.name-name.ensures;
    }
