use Rattle.std.proofs.Common.{arith}
use Rattle.np_node.proofs.ReadingLemmas.{passes-field, field-lacks}
use Rattle.np_node.proofs.fields.Fields.field.Goals as goal

pub returns-in-Some-take-clause-ok : goal.returns-in-Some-take-clause-ok
returns-in-Some-take-clause-ok c =
    let number = c.in-Some.ensures.some in
    let bytes = c.in-Some-take.ensures.some in
    (passes-field _ _ _ _ _ number.0 bytes.0 bytes.1, omega (arith, number.1, bytes.1))

pub returns-in-None-clause-err : goal.returns-in-None-clause-err
returns-in-None-clause-err c =
    let number = c.in-Some.ensures.some in
    let short = c.in-None.ensures.none in
    field-lacks _ _ _ _ number.0 number.1 short.0 short.1
