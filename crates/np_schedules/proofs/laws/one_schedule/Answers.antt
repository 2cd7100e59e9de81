use Rattle.np_schedules.proofs.ReadingLemmas.{one_reading}
use Rattle.np_schedules.proofs.laws.one_schedule.Goals as goal

pub returns : goal.returns
returns c = one_reading
