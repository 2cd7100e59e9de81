-- A schedule, as its bytes say it, and the first line that can't stand.
use Rattle.std.specs.Prelude.{◌≡◌, ℕ, ◌+◌, ◌<◌, ◌≤◌, List, [], ◌∷◌, ◌++◌, length, ◌⊎◌}
use Rattle.std.specs.List.{AllZip}
use Rattle.np_code_points.specs.Lines.{Numbered, AreDataLines, AreLines}
use Rattle.np_schedules.specs.Events.{Event, ScheduleData}
use Rattle.np_schedules.specs.ScheduleLines.{IsEventLine, IsNodesLine, IsRoomLine}
use Rattle.np_schedules.specs.declared.reading.ScheduleFault.{ScheduleFault}
use Rattle.np_schedules.specs.declared.reading.ScheduleFault.TheVariants.{Line, Memory}

-- lines are events, at most 1,000,000, where there are so many versions and so many nodes
abbrev pub AreEventLines : ℕ → ℕ → List Numbered → List Event → Type 0
AreEventLines versions nodes lines events =
    AllZip (λ line event. IsEventLine versions nodes line.text event) lines events × (length events ≤ 1000000)

-- the data lines: the room, the nodes, the events
pub record SaysSchedule (bytes : List ℕ) (schedule : ScheduleData) : Type 0 where
  pub room : Numbered
  pub nodes : Numbered
  pub events : List Numbered
  pub lines : AreDataLines bytes (room ∷ nodes ∷ events)
  pub room_says : IsRoomLine room.text schedule.room
  pub nodes_say : IsNodesLine schedule.versions nodes.text schedule.starts
  pub events_say : AreEventLines schedule.versions (length schedule.starts) events schedule.events

-- these data lines may stand at the front of a schedule over so many versions
abbrev pub MayStand : ℕ → List Numbered → Type 0
MayStand versions [] = Unit {0}
MayStand versions (room ∷ []) = (size : ℕ) × IsRoomLine room.text size
MayStand versions (room ∷ nodes ∷ lines) =
    (size : ℕ) × (starts : List ℕ) × (events : List Event)
    × IsRoomLine room.text size × IsNodesLine versions nodes.text starts × AreEventLines versions (length starts) lines events

-- the first data line that can't stand after those before it
pub record IsUnfit (bytes : List ℕ) (versions line : ℕ) : Type 0 where
  pub before : List Numbered
  pub unfit : Numbered
  pub behind : List Numbered
  pub lines : AreDataLines bytes (before ++ unfit ∷ behind)
  pub stand : MayStand versions before
  pub falls : MayStand versions (before ++ unfit ∷ []) → ⊥
  pub here : line ≡ unfit.line

-- the file ends before its line of nodes; the number is that of the line behind its last one
pub record EndsEarly (bytes : List ℕ) (versions line : ℕ) : Type 0 where
  pub taken : List Numbered
  pub data_lines : AreDataLines bytes taken
  pub stand : MayStand versions taken
  pub early : length taken < 2
  pub lines : List (List ℕ)
  pub are : AreLines bytes lines
  pub here : line ≡ length lines + 1

abbrev pub IsFaultyLine : List ℕ → ℕ → ℕ → Type 0
IsFaultyLine bytes versions line = IsUnfit bytes versions line ⊎ EndsEarly bytes versions line

-- a line of the room comes first, which takes no memory, and a line behind it, which may
pub record TakesMemory (bytes : List ℕ) : Type 0 where
  pub room : Numbered
  pub next : Numbered
  pub behind : List Numbered
  pub lines : AreDataLines bytes (room ∷ next ∷ behind)
  pub size : ℕ
  pub says : IsRoomLine room.text size

-- a fault names the first line that can't stand; want of memory comes in place of any answer, but only where a line takes some
abbrev pub NamesLine : List ℕ → ℕ → ScheduleFault → Type 0
NamesLine bytes versions (Line line) = IsFaultyLine bytes versions line
NamesLine bytes versions Memory = TakesMemory bytes
