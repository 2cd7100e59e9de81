use Rattle.np_caseless.proofs.StabilityLemmas.{key_stability, along_chains}
use Rattle.np_caseless.proofs.laws.stability.Goals as goal

pub returns-clause-one : goal.returns-clause-one
returns-clause-one c = key_stability

pub returns-clause-transitive : goal.returns-clause-transitive
returns-clause-transitive c = along_chains
