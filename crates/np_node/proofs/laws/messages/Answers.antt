use Rattle.np_node.proofs.MessageLemmas.{one_message, one_message_fault}
use Rattle.np_node.proofs.FoundLemmas.{message_or_fault}
use Rattle.np_node.proofs.laws.messages.Goals as goal

pub returns-clause-one : goal.returns-clause-one
returns-clause-one c = one_message

pub returns-clause-fault : goal.returns-clause-fault
returns-clause-fault c = one_message_fault

pub returns-clause-some : goal.returns-clause-some
returns-clause-some c = message_or_fault
