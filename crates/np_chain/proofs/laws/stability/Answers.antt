use Rattle.np_chain.proofs.StabilityLemmas.{stability}
use Rattle.np_chain.proofs.laws.stability.Goals as goal

pub returns : goal.returns
returns c = stability
