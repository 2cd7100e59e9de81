use Rattle.np_caseless.specs.Folded.{folded_by}
use Rattle.np_caseless.proofs.FineLemmas.{surrogate_fine}
use Rattle.np_caseless.proofs.folding_faults.fault_at.Goals as goal

pub returns-in-None : goal.returns-in-None
returns-in-None g c =
    surrogate_fine (folded_by (g.T.NormTable.model c.args.table.now) c.args.foldings.now) c.meets_conditions.ensures c.args.code c.are_in_order.ensures
    c.in-None.ensures.value
