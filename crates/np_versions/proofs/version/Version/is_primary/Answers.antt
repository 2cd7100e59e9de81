use Rattle.np_versions.proofs.CompositeLemmas.{primary-decides}
use Rattle.np_versions.proofs.version.Version.is_primary.Goals as goal

pub returns-clause-value : goal.returns-clause-value
returns-clause-value c = rw (← c.self.view_is, ← c.deref.ensures) c.is_primary.ensures

pub returns-clause-primary : goal.returns-clause-primary
returns-clause-primary c = primary-decides c.args.self.now c.args.code c.is_primary.result (returns-clause-value c)
