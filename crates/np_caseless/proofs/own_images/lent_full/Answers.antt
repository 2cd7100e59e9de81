use Rattle.std.proofs.Common.{◌∙◌, sym}
use Rattle.np_caseless.proofs.ImageLemmas.{lent_none, lent_some}
use Rattle.np_caseless.proofs.own_images.lent_full.Goals as goal

pub returns-then-is_empty : goal.returns-then-is_empty
returns-then-is_empty g c =
    c.from_ref.ensures.value
    ∙ sym
    (lent_none (g.T.NormTable.model c.args.table.now) c.meets_conditions.ensures c.args.compat c.args.code.now c.full-lent.result.now c.full-lent.ensures c.requires
    c.is_empty.result c.is_empty.ensures c.if-is_empty.true)

pub returns : goal.returns
returns g c =
    lent_some (g.T.NormTable.model c.args.table.now) c.meets_conditions.ensures c.args.compat c.args.code.now c.full-lent.result.now c.full-lent.ensures c.requires
    c.is_empty.result c.is_empty.ensures c.if-is_empty.false
