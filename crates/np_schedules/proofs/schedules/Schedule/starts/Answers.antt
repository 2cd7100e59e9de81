use Rattle.std.proofs.Common.{rules}
use Rattle.np_schedules.proofs.schedules.Schedule.starts.Goals as goal

pub returns : goal.returns
returns c = search rules
