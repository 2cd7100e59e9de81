use Rattle.std.proofs.Common.{map}
use Rattle.np_schedules.specs.EventLines.{event_of}
use Rattle.np_schedules.specs.inside.ScheduleReading.{HasTaken}
use Rattle.np_schedules.proofs.reading.read_events.Given as goal

abbrev pub invariant-loop-line : goal.invariant-loop-line
invariant-loop-line l = HasTaken l.versions l.nodes l.fn.lines.left l.line-iterator.left (map event_of l.events.items)
