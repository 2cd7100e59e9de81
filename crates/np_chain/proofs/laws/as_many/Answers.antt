use Rattle.np_chain.proofs.AsManyLemmas.{as_many_law}
use Rattle.np_chain.proofs.laws.as_many.Goals as goal

pub returns : goal.returns
returns c = as_many_law
