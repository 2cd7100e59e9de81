use Rattle.np_caseless.proofs.QuietLemmas.{own}
use Rattle.np_caseless.proofs.laws.own.Goals as goal

pub returns : goal.returns
returns c = own
