use Rattle.np_caseless.specs.Folded.{folded_by}
use Rattle.np_caseless.specs.inside.Images.{folded_parts}
use Rattle.np_caseless.proofs.ImageLemmas.{parts_of_folding}
use Rattle.np_caseless.proofs.LentLemmas.{more_behind}
use Rattle.std.proofs.Common.{sym}
use Rattle.np_caseless.proofs.lent_parts.behind_folded.Goals as goal

pub loop-code-preserved : goal.loop-code-preserved
loop-code-preserved g c =
    let v = folded_by (g.T.NormTable.model c.args.table.now) c.args.foldings.now in
    more_behind (folded_parts v c.args.compat) c.args.list.now c.args.codes.now c.loop-code.rest.now c.in_ok-rest.rest.now _
    c.loop-code.code-index c.code-item.result c.loop-code-test.true c.code-item.is c.loop-code.invariant
    (sym (parts_of_folding v c.args.compat c.code-item.result c.folding_of.result.now c.folding_of.ensures)) c.in_ok-rest.ensures
