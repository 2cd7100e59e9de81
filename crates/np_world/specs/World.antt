-- The world as a machine: nodes that keep strings, and all strings that were ever sent. It keeps no keys. What an event does
-- is read from above to below: the first case that fits holds.
use Rattle.std.specs.Prelude.{◌≡◌, ◌≢◌, ℕ, ◌+◌, ◌-◌, ◌<◌, ◌≤◌, ◌⊎◌, List, [], ◌∷◌, ◌++◌, length, map, slice_get, slice_set, Option, Some, None, MatchOption, chars, encode_utf8_all, IsUtf8}
use Rattle.std.specs.List.{Contains}
use Rattle.np_code_points.specs.declared.forms.Form.{Form}
use Rattle.np_code_points.specs.Forms.{is_compat}
use Rattle.np_code_points.specs.Text.{IsLongestValidPrefix}
use Rattle.np_forms.specs.Assigned.{IsAssigned, IsFirstUnassigned}
use Rattle.np_forms.specs.Forms.{IsEquivalent}
use Rattle.np_node.specs.Messages.{Message, IsMessage, IsMessageFault}
use Rattle.np_node.specs.Strings.{most_bytes, IsKey}
use Rattle.np_versions.specs.Counts.{assigned_count}
use Rattle.np_versions.specs.Versions.{VersionData}
use Rattle.np_schedules.specs.Events.{Event, Accept, Deliver, Upgrade, Save, Restart, Ask, Forge, Forget, RestartUnder, node_of}
use Rattle.np_world.specs.declared.replies.Reply.{Reply}
use Rattle.np_world.specs.declared.replies.Reply.TheVariants.{Sent, Kept, Known, Full, TooLong, Unassigned, NoMessage, Version, LastVersion, Saved, Restarted, Forgotten, NotKept, Equal, Different, Malformed, OtherForm, NotUtf8, KeyDiffers, OlderTables}

-- ---- what there is

-- what holds for all nodes: the versions in a row, the form, and how many strings a node may keep
pub record Setting : Type 0 where
  pub versions : List VersionData
  pub form : Form
  pub room : ℕ

-- a node: the place of its version in the row, the strings that it keeps, in the order in which it came to keep them, those
-- that it saved last, and the place of the version under which it saved them, if it ever did
pub record MachineNode : Type 0 where
  pub index : ℕ
  pub strings : List (List ℕ)
  pub saved : List (List ℕ)
  pub saved_at : Option ℕ

-- the nodes, and all strings that were ever sent, in that order
pub record World : Type 0 where
  pub nodes : List MachineNode
  pub sent : List (List ℕ)

-- at the start node I has the version that stands at place I of the list, and nothing is kept, saved or sent
abbrev pub start : List ℕ → World
start indices = record { nodes = map (λ index. record { index = index; strings = []; saved = []; saved_at = None }) indices; sent = [] }

-- what an event meets and leaves: the node that it names, and what was sent
pub record Scene : Type 0 where
  pub node : MachineNode
  pub sent : List (List ℕ)

-- ---- what an event does

-- where the condition holds the first, and else the second
abbrev pub If : Type 0 → Type 0 → Type 0 → Type 0
If condition first second = (condition × first) ⊎ ((¬ condition) × second)

-- the reply is this one, and this is left
abbrev pub Gives : Reply → Scene → Reply → Scene → Type 0
Gives told left reply after = (reply ≡ told) × (after ≡ left)

-- the reply is this one, and nothing changes
abbrev pub OnlyReplies : Reply → Scene → Reply → Scene → Type 0
OnlyReplies told before reply after = Gives told before reply after

abbrev pub with_string : MachineNode → List ℕ → MachineNode
with_string node string = record node { strings = node.strings ++ string ∷ [] }

-- the node keeps a string
abbrev pub keeping : List ℕ → Scene → Scene
keeping string before = record before { node = with_string before.node string }

-- the node keeps a string, and it is sent
abbrev pub sending : List ℕ → Scene → Scene
sending string before = record { node = with_string before.node string; sent = before.sent ++ string ∷ [] }

-- the reply names the first code point that the version lacks, and its place in bytes
abbrev pub NamesUnassigned : VersionData → List ℕ → Reply → Type 0
NamesUnassigned version string reply = (at : ℕ) × (code : ℕ) × IsFirstUnassigned version string at code × (reply ≡ Unassigned at code)

-- a string that is assigned comes to a node; where it is new and there is room for it, the reply is `told`, and `next` is left
abbrev pub Finds : Setting → List ℕ → Reply → Scene → Scene → Reply → Scene → Type 0
Finds setting string told next before reply after =
    If (Contains before.node.strings string) (OnlyReplies Known before reply after)
    (If (setting.room ≤ length before.node.strings) (OnlyReplies Full before reply after) (Gives told next reply after))

-- a string comes to a node; where it is assigned and new and there is room for it, the reply is `told`, and `next` is left
abbrev pub Comes : Setting → VersionData → List ℕ → Reply → Scene → Scene → Reply → Scene → Type 0
Comes setting version string told next before reply after =
    If (¬ (IsAssigned version string)) (NamesUnassigned version string reply × (after ≡ before))
    (Finds setting string told next before reply after)

-- a node is given a string: it keeps and sends it
abbrev pub Accepts : Setting → VersionData → List ℕ → Scene → Reply → Scene → Type 0
Accepts setting version string before reply after =
    If (most_bytes < length (encode_utf8_all string)) (OnlyReplies TooLong before reply after)
    (Comes setting version string (Sent (length before.sent)) (sending string before) before reply after)

-- the string that was sent under this number reaches a node: it keeps it, and sends nothing
abbrev pub Delivers : Setting → VersionData → ℕ → Scene → Reply → Scene → Type 0
Delivers setting version message before reply after =
    MatchOption (slice_get before.sent message) (OnlyReplies NoMessage before reply after)
    (λ string. Comes setting version string Kept (keeping string before) before reply after)

-- the reply names the place in bytes up to which they are UTF-8
abbrev pub NamesNotUtf8 : List ℕ → Reply → Type 0
NamesNotUtf8 bytes reply = (at : ℕ) × IsLongestValidPrefix bytes at × (reply ≡ NotUtf8 at)

-- a node receives a string and a key, as bytes, in a message of its form: the string comes to it, but it keeps none whose key
-- isn't that of the string under its version
abbrev pub Receives : Setting → VersionData → List ℕ → List ℕ → Scene → Reply → Scene → Type 0
Receives setting version string key before reply after =
    If (most_bytes < length string) (OnlyReplies TooLong before reply after)
    (If (¬ (IsUtf8 string)) (NamesNotUtf8 string reply × (after ≡ before))
    (If (¬ (IsAssigned version (chars string))) (NamesUnassigned version (chars string) reply × (after ≡ before))
    (If (¬ (IsKey version setting.form string key)) (OnlyReplies KeyDiffers before reply after)
    (Finds setting (chars string) Kept (keeping (chars string) before) before reply after))))

-- bytes that need not have been sent reach a node: they are no message, and the reply names their fault place, or they are a
-- message
abbrev pub Forges : Setting → VersionData → List ℕ → Scene → Reply → Scene → Type 0
Forges setting version bytes before reply after =
    ((at : ℕ) × IsMessageFault bytes at × OnlyReplies (Malformed at) before reply after)
    ⊎ ((message : Message) × IsMessage bytes message
    × If (message.form ≢ setting.form) (OnlyReplies OtherForm before reply after)
    (Receives setting version message.entry.string message.entry.key before reply after))

-- a node goes on to the next version, and keeps what it keeps
abbrev pub Upgrades : Setting → Scene → Reply → Scene → Type 0
Upgrades setting before reply after =
    If (before.node.index + 1 < length setting.versions)
    (Gives (Version (before.node.index + 1)) (record before { node = record before.node { index = before.node.index + 1 } }) reply after)
    (OnlyReplies LastVersion before reply after)

-- a node saves what it keeps, under its version
abbrev pub Saves : Scene → Reply → Scene → Type 0
Saves before reply after =
    Gives Saved (record before { node = record before.node { saved = before.node.strings; saved_at = Some before.node.index } }) reply after

-- a node loses what it keeps, and has again what it saved last; its version stays
abbrev pub Restarts : Scene → Reply → Scene → Type 0
Restarts before reply after = Gives Restarted (record before { node = record before.node { strings = before.node.saved } }) reply after

-- the node saved under a version with more assigned code points than the one at the place: `need` of them, and there are `have`
pub record HasOlderTables (setting : Setting) (node : MachineNode) (place need have : ℕ) : Type 0 where
  pub at : ℕ
  pub saver : VersionData
  pub version : VersionData
  pub saved : node.saved_at ≡ Some at
  pub saver_is : slice_get setting.versions at ≡ Some saver
  pub version_is : slice_get setting.versions place ≡ Some version
  pub need_is : need ≡ assigned_count saver
  pub have_is : have ≡ assigned_count version
  pub fewer : have < need

abbrev pub AreOlder : Setting → MachineNode → ℕ → Type 0
AreOlder setting node place = (need : ℕ) × (have : ℕ) × HasOlderTables setting node place need have

-- the reply names both counts
abbrev pub NamesOlder : Setting → MachineNode → ℕ → Reply → Type 0
NamesOlder setting node place reply = (need : ℕ) × (have : ℕ) × HasOlderTables setting node place need have × (reply ≡ OlderTables need have)

-- a node begins again with what it saved last, under the version at a place of the row
abbrev pub RestartsUnder : Setting → ℕ → Scene → Reply → Scene → Type 0
RestartsUnder setting place before reply after =
    If (AreOlder setting before.node place) (NamesOlder setting before.node place reply × (after ≡ before))
    (Gives Restarted (record before { node = record before.node { index = place; strings = before.node.saved } }) reply after)

-- the same strings in the same order, but for the first that is this one
pub record LosesFirst (old new : List (List ℕ)) (string : List ℕ) : Type 0 where
  pub front : List (List ℕ)
  pub behind : List (List ℕ)
  pub were : old ≡ front ++ string ∷ behind
  pub first : ¬ (Contains front string)
  pub are : new ≡ front ++ behind

-- a node forgets a string; what it saved and what was sent stay
abbrev pub Forgets : List ℕ → Scene → Reply → Scene → Type 0
Forgets string before reply after =
    If (Contains before.node.strings string)
    ((strings : List (List ℕ)) × LosesFirst before.node.strings strings string
    × Gives Forgotten (record before { node = record before.node { strings = strings } }) reply after)
    (OnlyReplies NotKept before reply after)

-- a node is asked about two strings: are they equivalent under the last version?
abbrev pub Asks : Setting → VersionData → List ℕ → List ℕ → Scene → Reply → Scene → Type 0
Asks setting last left right before reply after =
    If (Contains before.node.strings left × Contains before.node.strings right)
    (If (IsEquivalent last (is_compat setting.form) left right) (OnlyReplies Equal before reply after) (OnlyReplies Different before reply after))
    (OnlyReplies NotKept before reply after)

-- `version` is the node's present one, `last` the last of the row
abbrev pub Does : Setting → VersionData → VersionData → Event → Scene → Reply → Scene → Type 0
Does setting version last (Accept node string) before reply after = Accepts setting version string before reply after
Does setting version last (Deliver node message) before reply after = Delivers setting version message before reply after
Does setting version last (Upgrade node) before reply after = Upgrades setting before reply after
Does setting version last (Save node) before reply after = Saves before reply after
Does setting version last (Restart node) before reply after = Restarts before reply after
Does setting version last (Ask node left right) before reply after = Asks setting last left right before reply after
Does setting version last (Forge node bytes) before reply after = Forges setting version bytes before reply after
Does setting version last (Forget node string) before reply after = Forgets string before reply after
Does setting version last (RestartUnder node place) before reply after = RestartsUnder setting place before reply after

-- ---- one event after another

-- an event and its reply: the node that the event names changes, and no other
pub record IsStep (setting : Setting) (before : World) (event : Event) (reply : Reply) (after : World) : Type 0 where
  pub old : MachineNode
  pub new : MachineNode
  pub version : VersionData
  pub last : VersionData
  pub named : slice_get before.nodes (node_of event) ≡ Some old
  pub present : slice_get setting.versions old.index ≡ Some version
  pub final : slice_get setting.versions (length setting.versions - 1) ≡ Some last
  pub does : Does setting version last event (record { node = old; sent = before.sent }) reply (record { node = new; sent = after.sent })
  pub nodes : after.nodes ≡ slice_set before.nodes (node_of event) new

-- a list of events, with a reply to each
abbrev pub IsRun : Setting → World → List Event → List Reply → World → Type 0
IsRun setting before [] replies after = (replies ≡ []) × (after ≡ before)
IsRun setting before (event ∷ events) replies after =
    (reply : Reply) × (rest : List Reply) × (between : World)
    × (replies ≡ reply ∷ rest) × IsStep setting before event reply between × IsRun setting between events rest after
