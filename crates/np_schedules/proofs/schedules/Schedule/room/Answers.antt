use Rattle.std.proofs.Common.{rules}
use Rattle.np_schedules.proofs.schedules.Schedule.room.Goals as goal

pub returns-clause-room : goal.returns-clause-room
returns-clause-room c = search rules
