use Rattle.std.proofs.Common.{rules}
use Rattle.np_examples_shared.proofs.devices.Room.new.Goals as goal

pub returns-clause-room : goal.returns-clause-room
returns-clause-room c = search rules
