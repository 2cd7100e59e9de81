use Rattle.np_chain.proofs.StabilityLemmas.{transitivity}
use Rattle.np_chain.proofs.laws.transitivity.Goals as goal

pub returns : goal.returns
returns c = transitivity
