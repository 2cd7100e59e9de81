use Rattle.np_world.proofs.MessageLemmas.{one_message}
use Rattle.np_world.proofs.laws.one_message.Goals as goal

pub returns : goal.returns
returns c = one_message c.exchange.ensures.key
