-- The laws of the machine and of histories, over the definitions alone.
use Rattle.std.specs.Prelude.{◌≡◌, ℕ, List}
use Rattle.np_node.specs.Laws.{IsIn}
use Rattle.np_node.specs.LentMessages.{TellsString}
use Rattle.np_node.specs.Nodes.{State, IsNode}
use Rattle.np_schedules.specs.Events.{Event}
use Rattle.np_versions.specs.Versions.{VersionData}
use Rattle.np_world.specs.Histories.{IsHistory, TellsTheRun, report_at, schedule_of}
use Rattle.np_world.specs.Moments.{Rules, Moment, AreRules, IsStart}
use Rattle.np_world.specs.World.{Setting, World, IsRun}
use Rattle.np_world.specs.declared.replies.Reply.{Reply}

-- from a world on, a list of events has one list of replies and one last world at most, whatever the versions are
abbrev pub OneRun : Type 0
OneRun =
    (setting : Setting) (before : World) (events : List Event) (replies others : List Reply) (after other : World)
    → IsRun setting before events replies after → IsRun setting before events others other → (replies ≡ others) × (after ≡ other)

-- whatever calls nodes make over the versions of a chain, with one form and one room, and from new nodes on: replies and nodes are
-- those of the machine
abbrev pub HistoriesAreRuns : {T : Type 0} → (T → VersionData) → Type 0
HistoriesAreRuns {T} model =
    (rules : Rules T) (places : List ℕ) (events : List Event) (replies : List Reply) (first last : Moment T)
    → AreRules model rules → IsStart rules places first → IsHistory model rules first events replies last
    → TellsTheRun model rules.tables rules.form (schedule_of rules places events) (report_at replies last)

-- along a chain, the messages that two nodes of one form tell of a string are the same bytes, whenever they tell them
abbrev pub OneMessage : Type 0
OneMessage =
    (vs : List VersionData) (i j : ℕ) (node other : State) (string message again : List ℕ) → IsIn vs i node.version → IsIn vs j other.version
    → node.form ≡ other.form → IsNode node → IsNode other → TellsString node string message → TellsString other string again → message ≡ again
