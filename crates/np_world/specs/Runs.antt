-- What a replay tells: the machine's run over a schedule, and what stands beside it in the report.
use Rattle.std.specs.Prelude.{◌≡◌, ◌↔◌, ℕ, ◌-◌, List, [], length, map, chars, slice_get, Bool, IsTrue, Option, None, Some, All, IsSomeAnd, MatchOption}
use Rattle.np_code_points.specs.One.{HasOne}
use Rattle.np_code_points.specs.declared.forms.Form.{Form}
use Rattle.np_code_points.specs.Forms.{is_compat}
use Rattle.np_forms.specs.Forms.{IsEquivalent}
use Rattle.np_node.specs.Comparing.{AnswersSame}
use Rattle.np_node.specs.Images.{image_bytes}
use Rattle.np_node.specs.Messages.{message_bytes}
use Rattle.np_node.specs.Nodes.{NodeState, State, strings_of, IsKept}
use Rattle.np_node.specs.Strings.{Entry, IsEntry, IsKey}
use Rattle.np_versions.specs.Counts.{assigned_count}
use Rattle.np_versions.specs.Versions.{VersionData}
use Rattle.np_schedules.specs.Events.{ScheduleData}
use Rattle.np_world.specs.Reports.{ReportData, image_at, message_at}
use Rattle.np_world.specs.World.{Setting, MachineNode, World, start, IsRun}
use Rattle.np_world.specs.declared.replies.Reply.{Reply}

-- the setting of a replay: the versions of a chain, the form, and the schedule's room
abbrev pub setting_over : {T : Type 0} → (T → VersionData) → List T → Form → ScheduleData → Setting
setting_over model tables form schedule = record { versions = map model tables; form = form; room = schedule.room }

-- the machine has exactly one run over a schedule
abbrev pub HasOneRun : {T : Type 0} → (T → VersionData) → List T → Form → ScheduleData → Type 0
HasOneRun model tables form schedule =
    HasOne (λ (run : List Reply × World). IsRun (setting_over model tables form schedule) (start schedule.starts) schedule.events run.0 run.1)

-- the replies and the last world of the machine's run over a schedule have a property; that there is exactly one such run says `HasOneRun`
abbrev pub InTheRun : {T : Type 0} → (T → VersionData) → List T → Form → ScheduleData → (List Reply → World → Type 0) → Type 0
InTheRun model tables form schedule P =
    (replies : List Reply) (world : World)
    → IsRun (setting_over model tables form schedule) (start schedule.starts) schedule.events replies world → P replies world

-- the last of the versions
abbrev pub IsLast : List VersionData → VersionData → Type 0
IsLast versions v = slice_get versions (length versions - 1) ≡ Some v

-- each key is that of its string under a version
abbrev pub AreKeysUnder : VersionData → Form → List Entry → Type 0
AreKeysUnder v form entries = All (λ e. IsKey v form e.string e.key) entries

-- the strings of entries in order, as code points
abbrev pub texts_in : List Entry → List (List ℕ)
texts_in entries = map chars (strings_of entries)

-- the node has the table of its place in the chain, the form and the room
pub record IsNodeOf {T : Type 0} (tables : List T) (form : Form) (room : ℕ) (index : Option ℕ) (node : NodeState T) : Type 0 where
  pub place : ℕ
  pub index_is : index ≡ Some place
  pub table_is : slice_get tables place ≡ Some node.table
  pub form_is : node.form ≡ form
  pub room_is : node.room ≡ room

-- the message of a string with its key under a version
pub record IsMessageUnder (v : VersionData) (form : Form) (string bytes : List ℕ) : Type 0 where
  pub entry : Entry
  pub text : chars entry.string ≡ string
  pub is : IsEntry v form entry
  pub spelling : bytes ≡ message_bytes (record { form = form; entry = entry })

-- the report lends the message of each string that was sent, with its key under a version, and no other
abbrev pub LendsMessages : {T : Type 0} → VersionData → Form → ReportData T → List Reply → World → Type 0
LendsMessages v form report replies world =
    (i : ℕ) → MatchOption (slice_get world.sent i) (message_at report i ≡ None) (λ string. IsSomeAnd (message_at report i) (IsMessageUnder v form string))

-- the image of a list of strings, each beside its key under a version, which tells of so many assigned code points
pub record IsImageUnder (v : VersionData) (form : Form) (count : ℕ) (strings : List (List ℕ)) (bytes : List ℕ) : Type 0 where
  pub entries : List Entry
  pub texts : texts_in entries ≡ strings
  pub are : All (IsEntry v form) entries
  pub spelling : bytes ≡ image_bytes (record { needs = Some count; form = form; entries = entries })

-- the image of what a node saved last, each string beside its key under a version; it tells how many code points the version
-- assigns under which the node saved
pub record IsSavedBy (versions : List VersionData) (v : VersionData) (form : Form) (node : MachineNode) (bytes : List ℕ) : Type 0 where
  pub at : ℕ
  pub saver : VersionData
  pub saved : node.saved_at ≡ Some at
  pub saver_is : slice_get versions at ≡ Some saver
  pub image : IsImageUnder v form (assigned_count saver) node.saved bytes

-- the node never saved
abbrev pub NeverSaved : MachineNode → Type 0
NeverSaved node = (node.saved ≡ []) × (node.saved_at ≡ None)

-- the report lends the last image of each node that saved, with keys under a version, and no other
abbrev pub LendsImages : {T : Type 0} → List VersionData → VersionData → Form → ReportData T → List Reply → World → Type 0
LendsImages versions v form report replies world =
    (i : ℕ) → MatchOption (slice_get world.nodes i) (image_at report i ≡ None)
    (λ node. MatchOption (image_at report i) (NeverSaved node) (IsSavedBy versions v form node))

-- the version of a node and another one agree whether two strings that it keeps are equivalent
abbrev pub AgreeOn : VersionData → VersionData → Form → List Entry → Type 0
AgreeOn version last form entries =
    (left right : List ℕ) → IsKept entries left → IsKept entries right
    → IsEquivalent version (is_compat form) (chars left) (chars right) ↔ IsEquivalent last (is_compat form) (chars left) (chars right)

-- two answers of `same` to two strings are one: whether these are equivalent under a version
pub record IsOneAnswer (v : VersionData) (form : Form) (left right : List ℕ) (answer other : Option Bool) : Type 0 where
  pub equal : Bool
  pub first : answer ≡ Some equal
  pub second : other ≡ Some equal
  pub tells : IsTrue equal ↔ IsEquivalent v (is_compat form) (chars left) (chars right)

-- of two strings that both nodes keep, `same` answers the same at both: whether they are equivalent under a version
abbrev pub AnswerAlike : VersionData → Form → State → State → Type 0
AnswerAlike v form node other =
    (left right : List ℕ) → IsKept node.entries left → IsKept node.entries right → IsKept other.entries left → IsKept other.entries right
    → (first second : Option Bool) → AnswersSame node left right first → AnswersSame other left right second
    → IsOneAnswer v form left right first second
