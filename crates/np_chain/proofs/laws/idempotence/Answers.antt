use Rattle.np_forms.proofs.FormLemmas.{idempotence, same_forms}
use Rattle.np_chain.proofs.laws.idempotence.Goals as goal

pub returns-clause-own : goal.returns-clause-own
returns-clause-own c = idempotence

pub returns-clause-same : goal.returns-clause-same
returns-clause-same c = same_forms
