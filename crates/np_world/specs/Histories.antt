-- Histories: one call after another, by nodes over the versions of one chain, with one form and one room. A loss is a message that
-- no event delivers, a repeat a second delivery of one number, and `Forge` is the delivery of any other bytes.
use Rattle.std.specs.Prelude.{◌≡◌, ◌↔◌, ℕ, List, [], ◌∷◌, length, map, slice_get, slice_set, Some, None, Contains, IfSome, IsSome, MatchOption}
use Rattle.std.specs.Option.{option_map}
use Rattle.np_code_points.specs.declared.forms.Form.{Form}
use Rattle.np_node.specs.Nodes.{state_of}
use Rattle.np_schedules.specs.Events.{Event, Save, ScheduleData, node_of}
use Rattle.np_versions.specs.Versions.{VersionData}
use Rattle.np_world.specs.Calls.{Stage, Calls}
use Rattle.np_world.specs.Moments.{Rules, Moment}
use Rattle.np_world.specs.Reports.{ReportData, image_at, index_at, node_at, replies_of, PlacedNode}
use Rattle.np_world.specs.Runs.{AgreeOn, AnswerAlike, AreKeysUnder, HasOneRun, InTheRun, IsLast, IsNodeOf, LendsImages, LendsMessages, texts_in}
use Rattle.np_world.specs.declared.replies.Reply.{Reply}

-- a node, and what was sent
abbrev pub stage : {T : Type 0} → PlacedNode T → List (List ℕ) → Stage T
stage placed sent = record { placed = placed; sent = sent }

-- an event and its reply: the node that the event names does it, and no other changes
pub record IsDone {T : Type 0} (model : T → VersionData) (rules : Rules T) (before : Moment T) (event : Event) (reply : Reply)
    (after : Moment T) : Type 0 where
  pub old : PlacedNode T
  pub new : PlacedNode T
  pub named : slice_get before.nodes (node_of event) ≡ Some old
  pub calls : Calls model rules event (stage old before.sent) reply (stage new after.sent)
  pub nodes : after.nodes ≡ slice_set before.nodes (node_of event) new

-- a list of events, with a reply to each
abbrev pub IsHistory : {T : Type 0} → (T → VersionData) → Rules T → Moment T → List Event → List Reply → Moment T → Type 0
IsHistory model rules before [] replies after = (replies ≡ []) × (after ≡ before)
IsHistory {T} model rules before (event ∷ events) replies after =
    (reply : Reply) × (rest : List Reply) × (between : Moment T)
    × (replies ≡ reply ∷ rest) × IsDone model rules before event reply between × IsHistory model rules between events rest after

-- ---- what a history comes to

-- its rules and events as a schedule: the machine runs over that
abbrev pub schedule_of : {T : Type 0} → Rules T → List ℕ → List Event → ScheduleData
schedule_of rules places events = record { versions = length rules.tables; room = rules.room; starts = places; events = events }

-- its replies, and what there is at its end
abbrev pub report_at : {T : Type 0} → List Reply → Moment T → ReportData T
report_at replies last = record { replies = replies; sent = last.sent; nodes = last.nodes }

-- replies and nodes are those of the machine's one run over a schedule, keys are those under the last version, and nodes answer alike
pub record TellsTheRun {T : Type 0} (model : T → VersionData) (tables : List T) (form : Form) (schedule : ScheduleData) (report : ReportData T) : Type 0 where
  pub run : HasOneRun model tables form schedule
  pub replies : InTheRun model tables form schedule (λ replies world. replies_of report ≡ replies)
  pub indices : InTheRun model tables form schedule
      (λ replies world. (i : ℕ) → index_at report i ≡ option_map (λ node. node.index) (slice_get world.nodes i))
  pub strings : InTheRun model tables form schedule
      (λ replies world. (i : ℕ) → option_map (λ node. texts_in node.entries) (node_at report i) ≡ option_map (λ node. node.strings) (slice_get world.nodes i))
  pub keys : (last : VersionData) → IsLast (map model tables) last → (i : ℕ) → IfSome (node_at report i) (λ node. AreKeysUnder last form node.entries)
  pub nodes : (i : ℕ) → MatchOption (node_at report i) (index_at report i ≡ None) (λ node. IsNodeOf tables form schedule.room (index_at report i) node)
  pub sent : (last : VersionData) → IsLast (map model tables) last → InTheRun model tables form schedule (LendsMessages last form report)
  pub saved : (last : VersionData) → IsLast (map model tables) last → InTheRun model tables form schedule (LendsImages (map model tables) last form report)
  pub images : (i : ℕ) → IsSome (image_at report i) ↔ Contains schedule.events (Save i)
  pub equivalence : (last : VersionData) → IsLast (map model tables) last
      → (i : ℕ) → IfSome (node_at report i) (λ node. AgreeOn (model node.table) last form node.entries)
  pub alike : (last : VersionData) → IsLast (map model tables) last
      → (i j : ℕ) → IfSome (node_at report i) (λ node. IfSome (node_at report j) (λ other. AnswerAlike last form (state_of model node) (state_of model other)))
