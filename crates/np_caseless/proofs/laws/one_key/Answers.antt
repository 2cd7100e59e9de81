use Rattle.np_caseless.proofs.KeyLemmas.{one_key}
use Rattle.np_caseless.proofs.laws.one_key.Goals as goal

pub returns : goal.returns
returns c = one_key
