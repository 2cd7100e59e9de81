use Rattle.std.proofs.Common.{refl}
use Rattle.np_examples_shared.proofs.devices.Calls.new.Goals as goal

pub returns-clause-first : goal.returns-clause-first
returns-clause-first c = refl
