use Rattle.std.proofs.Common.{rules}
use Rattle.np_schedules.proofs.schedules.Schedule.versions.Goals as goal

pub returns : goal.returns
returns c = search rules
