use Rattle.np_node.proofs.LawLemmas.{exchange, fair_exchange}
use Rattle.np_node.proofs.laws.exchange.Goals as goal

pub returns-clause-key : goal.returns-clause-key
returns-clause-key c = exchange

pub returns-clause-fair : goal.returns-clause-fair
returns-clause-fair c = fair_exchange
