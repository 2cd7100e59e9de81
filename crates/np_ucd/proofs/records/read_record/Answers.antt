use Rattle.std.proofs.Common.{not, option_map, inr, sym, ap, ◌∙◌}
use Rattle.np_code_points.proofs.ValueGrammar.{is_empty-length}
use Rattle.np_ucd.proofs.RecordLemmas.{fault_mapping, fault_late, row_is, plain_fine, plain_row_is}
use Rattle.np_ucd.specs.inside.MappingValues.{mapping_of}
use Rattle.np_ucd.proofs.records.read_record.Goals as goal

pub returns-in_default-clause-fault : goal.returns-in_default-clause-fault
returns-in_default-clause-fault c =
    inr (fault_mapping c.in_ok-head.ensures.ok (sym c.in_ok-mapping.ensures ∙ ap (option_map mapping_of) c.in_default.is))

pub returns-in-Some-late_fault-clause-fault : goal.returns-in-Some-late_fault-clause-fault
returns-in-Some-late_fault-clause-fault c =
    inr (fault_late c.in_ok-head.ensures.ok (mapping_of c.in-Some.mapping) (not c.is_empty-maps.result)
    (sym c.in_ok-mapping.ensures ∙ ap (option_map mapping_of) c.in-Some.is) (ap not (c.is_empty-maps.ensures ∙ sym (is_empty-length c.in-Some.mapping.codes.items)))
    ∙ sym c.late_fault.ensures ∙ c.in-Some-late_fault.is)

pub returns-clause-fine : goal.returns-clause-fine
returns-clause-fine c =
    fault_late c.in_ok-head.ensures.ok (mapping_of c.in-Some.mapping) (not c.is_empty-maps.result)
    (sym c.in_ok-mapping.ensures ∙ ap (option_map mapping_of) c.in-Some.is) (ap not (c.is_empty-maps.ensures ∙ sym (is_empty-length c.in-Some.mapping.codes.items)))
    ∙ sym c.late_fault.ensures ∙ c.in_default-late_fault.is

pub returns-clause-row : goal.returns-clause-row
returns-clause-row c =
    row_is c.in_ok-head.ensures.ok (mapping_of c.in-Some.mapping) c.first_code.result
    (sym c.in_ok-mapping.ensures ∙ ap (option_map mapping_of) c.in-Some.is) c.first_code.ensures

pub returns-then-is_plain-clause-fine : goal.returns-then-is_plain-clause-fine
returns-then-is_plain-clause-fine c = plain_fine c.in_ok-head.ensures.ok (c.is_plain.ensures c.if-is_plain.true)

pub returns-then-is_plain-clause-row : goal.returns-then-is_plain-clause-row
returns-then-is_plain-clause-row c =
    c.plain_row-row.ensures ∙ plain_row_is c.in_ok-head.ensures.ok (c.is_plain.ensures c.if-is_plain.true)
