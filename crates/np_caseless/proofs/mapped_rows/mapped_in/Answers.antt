use Rattle.np_caseless.proofs.FineLemmas.{surrogate_unmapped, unlent_unmapped}
use Rattle.np_caseless.proofs.mapped_rows.mapped_in.Goals as goal

pub returns-in_default-clause-none : goal.returns-in_default-clause-none
returns-in_default-clause-none g c =
    surrogate_unmapped (g.T.NormTable.model c.args.table.now) c.meets_conditions.ensures c.args.first c.in_default.ensures.value

pub returns-then-is_empty-clause-none : goal.returns-then-is_empty-clause-none
returns-then-is_empty-clause-none g c =
    unlent_unmapped (g.T.NormTable.model c.args.table.now) c.meets_conditions.ensures
    c.in-Some.code c.args.first c.full.result.now c.is_empty.result c.in-Some.ensures.value.1 c.full.ensures c.is_empty.ensures c.if-is_empty.true
