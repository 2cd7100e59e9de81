use Rattle.np_chain.proofs.BackwardLemmas.{backward}
use Rattle.np_chain.proofs.laws.backward.Goals as goal

pub returns : goal.returns
returns c = backward
