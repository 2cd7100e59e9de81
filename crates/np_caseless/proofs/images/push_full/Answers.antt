use Rattle.std.proofs.Common.{◌∙◌, sym}
use Rattle.np_versions.proofs.MappingLemmas.{full_of-only}
use Rattle.np_versions.specs.inside.FullDecompositions.{full_of}
use Rattle.np_caseless.proofs.ImageLemmas.{flat_next}
use Rattle.np_caseless.proofs.images.push_full.Goals as goal

pub loop-code-preserved : goal.loop-code-preserved
loop-code-preserved g c =
    let v = g.T.NormTable.model c.args.table.now in
    let full =
    c.as_slice.ensures.value
    ∙ full_of-only v c.args.compat c.meets_conditions.ensures.shallow c.code-item.result c.in_ok-full.full.items c.in_ok-full.ensures in
    rw c.in_ok-extend_from_slice.ensures.items
    (flat_next (full_of v c.args.compat) c.args.parts.now.items c.args.codes.now c.loop-code.parts.items c.as_slice.result.now c.loop-code.code-index c.code-item.result
    c.loop-code-test.true c.code-item.is c.loop-code.invariant (sym full))
