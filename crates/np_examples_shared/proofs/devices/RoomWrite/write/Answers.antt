use Rattle.std.proofs.Common.{rules}
use Rattle.np_examples_shared.proofs.devices.RoomWrite.write.Goals as goal

pub returns-clause-bytes : goal.returns-clause-bytes
returns-clause-bytes c = search rules

pub returns-clause-piece : goal.returns-clause-piece
returns-clause-piece c = search rules

pub returns-clause-takes : goal.returns-clause-takes
returns-clause-takes c = search rules
