use Rattle.std.proofs.Common.{rules}
use Rattle.np_examples_shared.proofs.devices.Room.bytes.Goals as goal

pub returns : goal.returns
returns c = search rules
