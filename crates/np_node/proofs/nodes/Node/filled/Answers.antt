use Rattle.std.proofs.Common.{ℕ, arith, subst}
use Rattle.np_node.proofs.FillLemmas.{refused-whole, fill-start, fill-more, fill-lacks, fill-refused, fill-end}
use Rattle.np_node.specs.Nodes.{state_of}
use Rattle.np_node.specs.inside.Reading.{told_entry}
use Rattle.np_node.specs.inside.Shapes.{IsEntryRefusal}
use Rattle.np_node.proofs.nodes.Node.filled.Goals as goal

pub loop-number-init : goal.loop-number-init
loop-number-init g c =
    let read = c.in_default.field-0 in
    fill-start g.T.NormTable.model c.args.self c.args.image.now c.args.head.needs c.args.head.count c.new-fields.result c.read_head.new.fields read.needs read.form read.count c.requires.empty c.requires.shape
    c.in_default.ensures.needs c.in_default.ensures.count c.requires.young c.requires.room c.new-fields.ensures.0 c.new-fields.ensures.1 c.in_default.ensures.ok

pub returns-in-Err-spelled : goal.returns-in-Err-spelled
returns-in-Err-spelled g c =
    refused-whole _ _ _ c.in-Err-spelled.at c.args.image.now _ _ c.whole-in-Err-spelled.ensures.0 c.whole-in-Err-spelled.ensures.1
    (fill-lacks g.T.NormTable.model c.args.self c.args.image.now c.args.head.needs c.args.head.count c.loop-number.self c.loop-number.fields c.spelled.new.self c.loop-number.number c.loop-number.invariant c.loop-number-test.true c.in-Err-spelled.at c.in-Err-spelled.ensures.err)

pub returns-in-Err-restore_entry : goal.returns-in-Err-restore_entry
returns-in-Err-restore_entry g c =
    let told = c.in-Ok.ensures.ok in
    let refused = c.in-Err-restore_entry.refused in
    fill-refused g.T.NormTable.model c.args.self c.args.image.now c.args.head.needs c.args.head.count c.loop-number.self c.loop-number.fields c.spelled.new.self c.loop-number.number c.loop-number.invariant c.loop-number-test.true _ refused told.0 told.1
    (subst (λ (k : ℕ). IsEntryRefusal (state_of g.T.NormTable.model c.loop-number.self) (told_entry c.in-Ok.told) c.loop-number.number k refused) c.place-at.ensures c.in-Err-restore_entry.ensures.err)

pub loop-number-preserved : goal.loop-number-preserved
loop-number-preserved g c =
    let told = c.in-Ok.ensures.ok in
    let done = c.in_default-restore_entry.ensures in
    fill-more g.T.NormTable.model c.args.self c.args.image.now c.args.head.needs c.args.head.count c.loop-number.self c.loop-number.fields c.spelled.new.self c.loop-number.number c.loop-number.invariant c.loop-number-test.true c.restore_entry.new.self _ told.0 told.1
    done.ok done.new done.node

pub returns : goal.returns
returns g c =
    fill-end g.T.NormTable.model c.args.self c.args.image.now c.args.head.needs c.args.head.count c.loop-number.self c.loop-number.fields c.loop-number.number c.loop-number.invariant (omega (arith, c.loop-number-test.false))
