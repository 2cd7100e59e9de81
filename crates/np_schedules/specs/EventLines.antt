-- The events of the code as contracts see them.
use Rattle.std.specs.Prelude.{chars, string_bytes}
use Rattle.np_schedules.specs.Events.{Event, Accept, Deliver, Upgrade, Save, Restart, Ask, Forge, Forget, RestartUnder}
use Rattle.np_schedules.specs.declared.events.EventLine.{EventLine}
use Rattle.np_schedules.specs.declared.events.EventLine.TheVariants as line

abbrev pub event_of : EventLine → Event
event_of (line.Accept node string) = Accept node (chars (string_bytes string))
event_of (line.Deliver node message) = Deliver node message
event_of (line.Upgrade node) = Upgrade node
event_of (line.Save node) = Save node
event_of (line.Restart node) = Restart node
event_of (line.Ask node left right) = Ask node (chars (string_bytes left)) (chars (string_bytes right))
event_of (line.Forge node bytes) = Forge node bytes.items
event_of (line.Forget node string) = Forget node (chars (string_bytes string))
event_of (line.RestartUnder node version) = RestartUnder node version
