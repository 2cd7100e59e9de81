-- What a replay did is a history.
use Rattle.std.specs.Prelude.{ℕ, List}
use Rattle.np_code_points.specs.declared.forms.Form.{Form}
use Rattle.np_schedules.specs.Events.{Event, ScheduleData}
use Rattle.np_versions.specs.Versions.{VersionData}
use Rattle.np_world.specs.Histories.{IsHistory}
use Rattle.np_world.specs.Moments.{Rules, AreRules, Moment, IsStart}
use Rattle.np_world.specs.Reports.{ReportData}
use Rattle.np_world.specs.declared.replies.Reply.{Reply}

-- a history from new nodes on
pub record IsPlayed {T : Type 0} (model : T → VersionData) (rules : Rules T) (places : List ℕ) (events : List Event) (replies : List Reply) (last : Moment T) : Type 0 where
  pub rules_hold : AreRules model rules
  pub first : Moment T
  pub begins : IsStart rules places first
  pub history : IsHistory model rules first events replies last

abbrev pub rules_over : {T : Type 0} → List T → Form → ScheduleData → Rules T
rules_over tables form schedule = record { tables = tables; form = form; room = schedule.room }

-- the replies, messages and nodes of a report are those of a history with the events of a schedule
abbrev pub IsReplayed : {T : Type 0} → (T → VersionData) → List T → Form → ScheduleData → ReportData T → Type 0
IsReplayed model tables form schedule report =
    IsPlayed model (rules_over tables form schedule) schedule.starts schedule.events report.replies (record { nodes = report.nodes; sent = report.sent })
