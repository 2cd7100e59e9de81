use Rattle.std.proofs.Common.{[], flat_map}
use Rattle.np_versions.specs.inside.FullDecompositions.{full_of}
use Rattle.np_caseless.specs.Folded.{folded_by}
use Rattle.np_caseless.specs.inside.Images.{folded_parts}
use Rattle.np_caseless.proofs.ImageLemmas.{flat_next, parts_of_folding}
use Rattle.np_caseless.proofs.images.parts_folded.Goals as goal

pub loop-code-preserved : goal.loop-code-preserved
loop-code-preserved g c =
    let v = folded_by (g.T.NormTable.model c.args.table.now) c.args.foldings.now in
    rw c.in_ok-push_full.ensures
    (flat_next (folded_parts v c.args.compat) [] c.args.codes.now c.loop-code.parts.items (flat_map (full_of v.version c.args.compat) c.folding_of.result.now) c.loop-code.code-index c.code-item.result
    c.loop-code-test.true c.code-item.is c.loop-code.invariant (parts_of_folding v c.args.compat c.code-item.result c.folding_of.result.now c.folding_of.ensures))
