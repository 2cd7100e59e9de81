use Rattle.np_versions.specs.inside.FullDecompositions.{full_of}
use Rattle.np_caseless.proofs.LentLemmas.{more_behind}
use Rattle.np_caseless.proofs.lent_parts.behind_full.Goals as goal

pub loop-code-preserved : goal.loop-code-preserved
loop-code-preserved g c =
    more_behind (full_of (g.T.NormTable.model c.args.table.now) c.args.compat) c.args.list.now c.args.codes.now c.loop-code.rest.now
    c.in_ok-rest.rest.now c.in_ok-full.full.now
    c.loop-code.code-index c.code-item.result c.loop-code-test.true c.code-item.is c.loop-code.invariant c.in_ok-full.ensures c.in_ok-rest.ensures
