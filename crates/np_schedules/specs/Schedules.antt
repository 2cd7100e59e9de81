-- What holds of every schedule.
use Rattle.std.specs.Prelude.{◌≡◌, ℕ, ◌<◌, ◌≤◌, List, length, All}
use Rattle.np_schedules.specs.Events.{Event, ScheduleData, RestartUnder, node_of}

-- each event names one of so many nodes
abbrev pub NameNodes : ℕ → List Event → Type 0
NameNodes nodes events = All (λ event. node_of event < nodes) events

-- an event that names a version names one of so many
abbrev pub NamesVersion : ℕ → Event → Type 0
NamesVersion versions event = (node version : ℕ) → event ≡ RestartUnder node version → version < versions

abbrev pub NameVersions : ℕ → List Event → Type 0
NameVersions versions events = All (NamesVersion versions) events

-- what holds of every schedule that was read
pub record IsStandable (schedule : ScheduleData) : Type 0 where
  pub room : schedule.room ≤ 65536
  pub starts : All (λ index. index < schedule.versions) schedule.starts
  pub events : NameNodes (length schedule.starts) schedule.events
  pub restarts : NameVersions schedule.versions schedule.events
