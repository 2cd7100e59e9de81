use Rattle.std.proofs.Common.{refl}
use Rattle.np_schedules.specs.inside.LineValues.{restart_value}
use Rattle.np_schedules.proofs.reading.arguments.restart_of.Goals as goal

pub returns-in_default : goal.returns-in_default
unfolding restart_value
returns-in_default c = rw c.in_default.ensures.steps.0 refl
