use Rattle.np_caseless.proofs.BackwardLemmas.{left_behind}
use Rattle.np_caseless.proofs.laws.backward.Goals as goal

pub returns : goal.returns
returns c = left_behind
