use Rattle.np_world.proofs.MachineLemmas.{one_run}
use Rattle.np_world.proofs.laws.one_run.Goals as goal

pub returns : goal.returns
returns c = one_run c.messages.ensures.one c.messages.ensures.fault
