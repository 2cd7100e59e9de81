use Rattle.std.proofs.Common.{◌∙◌}
use Rattle.np_versions.specs.inside.FullDecompositions.{full_of}
use Rattle.np_caseless.proofs.LentLemmas.{alone_parts, none_behind, some_more}
use Rattle.np_caseless.proofs.quick_images.known_parts.Goals as goal

pub returns-then-is_empty : goal.returns-then-is_empty
returns-then-is_empty g c =
    let full = full_of (g.T.NormTable.model c.args.table.now) c.args.compat in
    some_more _ _ c.known_full.result
    (λ x is. is ∙ alone_parts full c.args.images.now c.in_ok-split.split.1.now c.in_ok-split.split.0.now c.is_empty.result
    c.in_ok-split.ensures.cases.0 c.is_empty.ensures c.if-is_empty.true)
    c.known_full.ensures

pub returns : goal.returns
returns g c = none_behind c.args.images.now _ c.in_ok-rest.rest.now c.is_empty-2.result c.in_ok-rest.ensures c.is_empty-2.ensures c.if-not-is_empty.false
