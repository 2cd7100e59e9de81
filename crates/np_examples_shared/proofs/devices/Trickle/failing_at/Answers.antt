use Rattle.std.proofs.Common.{refl}
use Rattle.np_examples_shared.proofs.devices.Trickle.failing_at.Goals as goal

pub returns-clause-bytes : goal.returns-clause-bytes
returns-clause-bytes c = refl
