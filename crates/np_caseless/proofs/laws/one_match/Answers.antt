use Rattle.np_caseless.proofs.KeyLemmas.{one_match}
use Rattle.np_caseless.proofs.laws.one_match.Goals as goal

pub returns : goal.returns
returns c = one_match
