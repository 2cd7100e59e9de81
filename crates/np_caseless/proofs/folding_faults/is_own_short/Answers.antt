use Rattle.np_caseless.specs.Folded.{folded_by}
use Rattle.np_caseless.proofs.ImageTableLemmas.{short_own}
use Rattle.np_caseless.proofs.folding_faults.is_own_short.Goals as goal

pub returns : goal.returns
returns g c = λ yes long.
    short_own (folded_by (g.T.NormTable.model c.args.table.now) c.args.foldings.now) c.meets_conditions.ensures c.args.code (c.is_own.ensures yes) long
