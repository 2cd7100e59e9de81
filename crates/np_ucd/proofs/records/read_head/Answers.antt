use Rattle.std.proofs.Common.{option_map, refl, sym, ap, ◌∙◌}
use Rattle.np_ucd.proofs.RecordLemmas.{said, fault_count, fault_code, fault_order, fault_category, fault_class, head_is}
use Rattle.np_code_points.specs.Codes.{code_value}
use Rattle.np_ucd.specs.inside.FieldReading.{category_value, class_value, opens_range, closes_range}
use Rattle.np_ucd.specs.inside.RecordValues.{neighbour_value}
use Rattle.np_ucd.proofs.records.read_head.Goals as goal

pub returns-in_default-clause-fault : goal.returns-in_default-clause-fault
returns-in_default-clause-fault c =
    fault_count (option_map neighbour_value c.args.before) c.args.line c.args.text.now c.in_default.ensures

pub returns-in_default-code_of-clause-fault : goal.returns-in_default-code_of-clause-fault
returns-in_default-code_of-clause-fault c =
    fault_code (option_map neighbour_value c.args.before) c.args.line c.args.text.now c.in-Some.ensures.0
    (said code_value c.in-Some.ensures.1 c.code_of.ensures.value c.in_default-code_of.is)

pub returns-then-is_at_most-clause-fault : goal.returns-then-is_at_most-clause-fault
returns-then-is_at_most-clause-fault c =
    fault_order (option_map neighbour_value c.args.before) c.args.line c.args.text.now c.in-Some.ensures.0 c.in-Some-code_of.code
    (said code_value c.in-Some.ensures.1 c.code_of.ensures.value c.in-Some-code_of.is) (sym c.is_at_most.ensures ∙ c.if-is_at_most.true)

pub returns-in_default-category_of-clause-fault : goal.returns-in_default-category_of-clause-fault
returns-in_default-category_of-clause-fault c =
    fault_category (option_map neighbour_value c.args.before) c.args.line c.args.text.now c.in-Some.ensures.0 c.in-Some-code_of.code
    (said code_value c.in-Some.ensures.1 c.code_of.ensures.value c.in-Some-code_of.is) (sym c.is_at_most.ensures ∙ c.if-is_at_most.false)
    (said category_value c.in-Some.ensures.3 c.category_of.ensures c.in_default-category_of.is)

pub returns-in_default-class_of-clause-fault : goal.returns-in_default-class_of-clause-fault
returns-in_default-class_of-clause-fault c =
    fault_class (option_map neighbour_value c.args.before) c.args.line c.args.text.now c.in-Some.ensures.0 c.in-Some-code_of.code c.in-Some-category_of.category
    (said code_value c.in-Some.ensures.1 c.code_of.ensures.value c.in-Some-code_of.is) (sym c.is_at_most.ensures ∙ c.if-is_at_most.false)
    (said category_value c.in-Some.ensures.3 c.category_of.ensures c.in-Some-category_of.is)
    (said class_value c.in-Some.ensures.4 c.class_of.ensures c.in_default-class_of.is)

pub returns-clause-ok : goal.returns-clause-ok
returns-clause-ok c =
    head_is (option_map neighbour_value c.args.before) c.args.line c.args.text.now c.in-Some.ensures.0 _ _ _ refl
    (said code_value c.in-Some.ensures.1 c.code_of.ensures.value c.in-Some-code_of.is) (sym c.is_at_most.ensures ∙ c.if-is_at_most.false)
    (said category_value c.in-Some.ensures.3 c.category_of.ensures c.in-Some-category_of.is)
    (said class_value c.in-Some.ensures.4 c.class_of.ensures c.in-Some-class_of.is)
    (c.opens_range.ensures ∙ ap opens_range c.in-Some.ensures.2) (c.closes_range.ensures ∙ ap closes_range c.in-Some.ensures.2) c.in-Some.ensures.5
