use Rattle.np_versions.proofs.MappingLemmas.{some_decomposition}
use Rattle.np_versions.proofs.UniqueLemmas.{at_most_one}
use Rattle.np_versions.proofs.laws.full_decomposition.Goals as goal

pub returns-clause-only : goal.returns-clause-only
returns-clause-only c = at_most_one

pub returns-clause-some : goal.returns-clause-some
returns-clause-some c = some_decomposition
