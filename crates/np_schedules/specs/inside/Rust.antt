-- A schedule of the code as contracts see it.
use Rattle.std.specs.Prelude.{ℕ, List, map}
use Rattle.np_schedules.specs.EventLines.{event_of}
use Rattle.np_schedules.specs.Events.{ScheduleData}
use Rattle.np_schedules.specs.declared.events.EventLine.{EventLine}

abbrev pub schedule_data : ℕ → ℕ → List ℕ → List EventLine → ScheduleData
schedule_data versions room starts events =
    record { versions = versions; room = room; starts = starts; events = map event_of events }
