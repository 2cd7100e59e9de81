use Rattle.np_caseless.proofs.KeyLemmas.{equivalents}
use Rattle.np_caseless.proofs.laws.equivalents.Goals as goal

pub returns : goal.returns
returns c = equivalents
