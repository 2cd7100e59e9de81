use Rattle.np_versions.proofs.TableLemmas.{lent-value}
use Rattle.np_forms.proofs.lookups.lent.Goals as goal

pub returns : goal.returns
returns g c = lent-value (g.T.NormTable.model c.args.table.now) c.args.compat c.args.c c.full.result.now c.meets_conditions.ensures c.full.ensures
