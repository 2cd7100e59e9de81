use Rattle.std.proofs.Common.{sym, ap, ◌∙◌}
use Rattle.np_code_points.specs.inside.LineCuts.{is_empty}
use Rattle.np_code_points.proofs.ValueGrammar.{is_empty-length}
use Rattle.np_foldings.proofs.FieldGrammar.{ends_more, ends_here}
use Rattle.np_foldings.proofs.fields.is_empty_end.Goals as goal

pub returns-in-Some : goal.returns-in-Some
returns-in-Some c = sym (ends_more c.args.last.now c.in-Some.field-0.0.now c.in-Some.field-0.1.now c.in-Some.ensures)

pub returns-in-None : goal.returns-in-None
returns-in-None c =
    c.is_empty.ensures ∙ sym (is_empty-length c.text_of.result.now) ∙ ap is_empty c.text_of.ensures ∙ sym (ends_here c.args.last.now c.in-None.ensures)
