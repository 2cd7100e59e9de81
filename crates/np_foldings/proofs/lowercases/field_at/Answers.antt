use Rattle.std.proofs.Common.{[], sym, ◌∙◌, arith}
use Rattle.np_ucd.specs.inside.FieldReading.{fields_of}
use Rattle.np_foldings.proofs.LowercaseGrammar.{behind_field, no_field, field_here, field_begin}
use Rattle.np_foldings.proofs.lowercases.field_at.Goals as goal

pub loop-passed-init : goal.loop-passed-init
loop-passed-init c = field_begin c.args.text.now c.args.at

pub returns-in-None : goal.returns-in-None
returns-in-None c = sym (c.loop-passed.invariant ∙ no_field c.loop-passed.rest.now c.args.at c.loop-passed._passed c.loop-passed-test.true c.in-None.ensures)

pub loop-passed-preserved : goal.loop-passed-preserved
loop-passed-preserved c =
    c.loop-passed.invariant
    ∙ behind_field c.loop-passed.rest.now c.in-Some._field.now c.in-Some.behind.now c.args.at c.loop-passed._passed c.loop-passed-test.true c.in-Some.ensures

pub returns-in-Some-next_field : goal.returns-in-Some-next_field
returns-in-Some-next_field c =
    sym (c.loop-passed.invariant
    ∙ field_here c.loop-passed.rest.now c.in-Some-next_field.field.now (fields_of c.in-Some-next_field._behind.now) c.args.at c.loop-passed._passed
    (omega (arith, c.loop-passed-test.false)) c.in-Some-next_field.ensures)

pub returns-in-None-next_field : goal.returns-in-None-next_field
returns-in-None-next_field c =
    sym (c.loop-passed.invariant
    ∙ field_here c.loop-passed.rest.now c.loop-passed.rest.now [] c.args.at c.loop-passed._passed
    (omega (arith, c.loop-passed-test.false)) c.in-None-next_field.ensures)
