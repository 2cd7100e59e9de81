use Rattle.np_caseless.specs.Folded.{folded_by}
use Rattle.np_caseless.specs.inside.Images.{stays}
use Rattle.np_caseless.proofs.ImageLemmas.{all_next}
use Rattle.np_caseless.proofs.lent_parts.do_stay.Goals as goal

pub loop-code-preserved : goal.loop-code-preserved
loop-code-preserved g c =
    let v = folded_by (g.T.NormTable.model c.args.table.now) c.args.foldings.now in
    all_next (stays v c.args.compat) c.args.codes.now c.loop-code.code-index c.code-item.result c.loop-code-test.true c.code-item.is c.loop-code.invariant
    (c.does_stay.ensures c.if-not-does_stay.false)
