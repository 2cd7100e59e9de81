use Rattle.std.proofs.Common.{sym, ap, ◌∙◌}
use Rattle.std.specs.Prelude.{option_map}
use Rattle.np_foldings.specs.inside.RecordValues.{fields_said}
use Rattle.np_foldings.proofs.HeadGrammar.{head_at}
use Rattle.np_foldings.proofs.RecordLemmas.{judged_count, judged_code, judged_status, judged_order, judged_conflict, judged_on}
use Rattle.np_foldings.proofs.records.read_head.Goals as goal

pub returns-in_default : goal.returns-in_default
returns-in_default c = judged_count c.args.before c.args.text.now (sym c.fields_of.ensures ∙ ap (option_map fields_said) c.in_default.is)

pub returns-in_default-code_of : goal.returns-in_default-code_of
returns-in_default-code_of c =
    judged_code c.args.before c.args.text.now (fields_said c.in-Some.fields)
    (sym c.fields_of.ensures ∙ ap (option_map fields_said) c.in-Some.is) (sym c.code_of.ensures.value ∙ c.in_default-code_of.is)

pub returns-in_default-status_of : goal.returns-in_default-status_of
returns-in_default-status_of c =
    judged_status c.args.before c.args.text.now (fields_said c.in-Some.fields)
    (sym c.fields_of.ensures ∙ ap (option_map fields_said) c.in-Some.is)
    c.in-Some-code_of.code (sym c.code_of.ensures.value ∙ c.in-Some-code_of.is) (sym c.status_of.ensures ∙ c.in_default-status_of.is)

pub returns-then-is_out_of_order : goal.returns-then-is_out_of_order
returns-then-is_out_of_order c =
    judged_order c.args.before c.args.text.now (fields_said c.in-Some.fields)
    (sym c.fields_of.ensures ∙ ap (option_map fields_said) c.in-Some.is)
    (head_at c.in-Some-code_of.code c.in-Some-status_of.status)
    (sym c.code_of.ensures.value ∙ c.in-Some-code_of.is) (sym c.status_of.ensures ∙ c.in-Some-status_of.is)
    (sym c.is_out_of_order.ensures ∙ c.if-is_out_of_order.true)

pub returns-then-conflicts : goal.returns-then-conflicts
returns-then-conflicts c =
    judged_conflict c.args.before c.args.text.now (fields_said c.in-Some.fields)
    (sym c.fields_of.ensures ∙ ap (option_map fields_said) c.in-Some.is)
    (head_at c.in-Some-code_of.code c.in-Some-status_of.status)
    (sym c.code_of.ensures.value ∙ c.in-Some-code_of.is) (sym c.status_of.ensures ∙ c.in-Some-status_of.is)
    (sym c.is_out_of_order.ensures ∙ c.if-is_out_of_order.false) (sym c.conflicts.ensures ∙ c.if-conflicts.true)

pub returns : goal.returns
returns c =
    judged_on c.args.before c.args.text.now (fields_said c.in-Some.fields)
    (sym c.fields_of.ensures ∙ ap (option_map fields_said) c.in-Some.is)
    (head_at c.in-Some-code_of.code c.in-Some-status_of.status)
    (sym c.code_of.ensures.value ∙ c.in-Some-code_of.is) (sym c.status_of.ensures ∙ c.in-Some-status_of.is)
    (sym c.is_out_of_order.ensures ∙ c.if-is_out_of_order.false) (sym c.conflicts.ensures ∙ c.if-conflicts.false)
