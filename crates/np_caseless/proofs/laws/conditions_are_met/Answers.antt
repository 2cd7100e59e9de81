use Rattle.np_caseless.proofs.ExampleLemmas.{conditions_are_met}
use Rattle.np_caseless.proofs.laws.conditions_are_met.Goals as goal

pub returns : goal.returns
returns c = conditions_are_met
