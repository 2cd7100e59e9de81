use Rattle.std.proofs.Common.{rules}
use Rattle.np_schedules.proofs.reading.take_event.Goals as goal

pub returns-then-len-ge-MOST_EVENTS-clause-event : goal.returns-then-len-ge-MOST_EVENTS-clause-event
returns-then-len-ge-MOST_EVENTS-clause-event c = search rules
