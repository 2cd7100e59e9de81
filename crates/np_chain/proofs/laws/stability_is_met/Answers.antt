use Rattle.np_chain.proofs.ExampleLemmas.{extension_is_met}
use Rattle.np_chain.proofs.laws.stability_is_met.Goals as goal

pub returns : goal.returns
returns c = extension_is_met
