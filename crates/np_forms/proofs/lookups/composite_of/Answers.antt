use Rattle.np_versions.proofs.TableLemmas.{pair-value}
use Rattle.np_forms.proofs.lookups.composite_of.Goals as goal

pub returns : goal.returns
returns g c = pair-value (g.T.NormTable.model c.args.table.now) c.meets_conditions.ensures c.args.a c.args.b c.pair.result c.pair.ensures.some c.pair.ensures.none
