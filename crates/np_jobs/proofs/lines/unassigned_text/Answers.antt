use Rattle.std.proofs.Common.{◌++◌, ap, codes, ◌∙◌}
use Rattle.np_code_points.specs.Codes.{unassigned}
use Rattle.np_code_points.proofs.Bytes.{behind}
use Rattle.np_jobs.proofs.lines.unassigned_text.Goals as goal

pub returns : goal.returns
returns c =
    behind c.args.head.now (unassigned c.args.at c.args.code) (codes "\n")
    (c.in_ok-write_unassigned.ensures ∙ ap (λ l. l ++ unassigned c.args.at c.args.code) c.in_ok-text.ensures.ok) c.in_ok-push_str.ensures.bytes
