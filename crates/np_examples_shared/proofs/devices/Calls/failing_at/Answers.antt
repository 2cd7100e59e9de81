use Rattle.std.proofs.Common.{refl}
use Rattle.np_examples_shared.proofs.devices.Calls.failing_at.Goals as goal

pub returns-clause-fails : goal.returns-clause-fails
returns-clause-fails c = refl
