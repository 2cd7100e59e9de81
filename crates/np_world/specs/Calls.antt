-- Each event as nodes do it: a call, by the clauses of the call's contract, and the reply says what the call answered. A call that
-- wanted memory is no event, and neither is one whose string is no text: both changed nothing.
use Rattle.std.specs.Prelude.{◌≡◌, ℕ, ◌+◌, ◌≤◌, ◌⊎◌, List, [], ◌∷◌, ◌++◌, length, chars, slice_get, Bool, Option, Some, None, MatchOption, Result, Ok, Err, IsUtf8}
use Rattle.np_node.specs.Accepting.{AnswersKeep, LeavesKept}
use Rattle.np_node.specs.Comparing.{AnswersSame}
use Rattle.np_node.specs.Forgetting.{Forgets}
use Rattle.np_node.specs.Images.{image_bytes}
use Rattle.np_node.specs.Laws.{image_of}
use Rattle.np_node.specs.LentMessages.{TellsString}
use Rattle.np_node.specs.Nodes.{NodeState, state_of}
use Rattle.np_node.specs.Restoring.{AnswersRestore}
use Rattle.np_node.specs.Taking.{AnswersTake, LeavesTaken}
use Rattle.np_node.specs.declared.faults.ImageFault.{ImageFault}
use Rattle.np_node.specs.declared.faults.NodeFault.{NodeFault}
use Rattle.np_node.specs.declared.taking.Taken.{Taken}
use Rattle.np_node.specs.declared.taking.Taken.TheVariants as taken
use Rattle.np_schedules.specs.Events.{Event, Accept, Deliver, Upgrade, Save, Restart, Ask, Forge, Forget, RestartUnder}
use Rattle.np_versions.specs.Counts.{assigned_count}
use Rattle.np_versions.specs.Versions.{VersionData}
use Rattle.np_world.specs.Reports.{PlacedNode}
use Rattle.np_world.specs.Moments.{Rules, empty_node}
use Rattle.np_world.specs.Told.{refusal_of, reply_to, forgetting_reply, comparing_reply}
use Rattle.np_world.specs.declared.replies.Reply.{Reply}
use Rattle.np_world.specs.declared.replies.Reply.TheVariants.{Sent, Kept, NoMessage, Version, LastVersion, Saved, Restarted}

-- what a call meets and leaves: its node, and what was sent
pub record Stage (T : Type 0) : Type 0 where
  pub placed : PlacedNode T
  pub sent : List (List ℕ)

-- the bytes are those of a text
pub record Spells (bytes text : List ℕ) : Type 0 where
  pub utf8 : IsUtf8 bytes
  pub text_is : text ≡ chars bytes

-- the node has its place and its last image still
pub record StaysPlaced {T : Type 0} (before after : Stage T) : Type 0 where
  pub index : after.placed.index ≡ before.placed.index
  pub image : after.placed.image ≡ before.placed.image

-- where a string was kept, the message that tells it is sent
abbrev pub Sends : {T : Type 0} → (T → VersionData) → List ℕ → Result Taken NodeFault → Stage T → Stage T → Type 0
Sends model bytes (Ok taken.Kept) before after =
    (message : List ℕ) × TellsString (state_of model after.placed.node) bytes message × (after.sent ≡ before.sent ++ message ∷ [])
Sends model bytes (Ok taken.Known) before after = after.sent ≡ before.sent
Sends model bytes (Err refused) before after = after.sent ≡ before.sent

-- `keep_string`, or `npss_node_accept`, and then the message
pub record CallsAccept {T : Type 0} (model : T → VersionData) (string : List ℕ) (before : Stage T) (reply : Reply) (after : Stage T) : Type 0 where
  pub bytes : List ℕ
  pub spells : Spells bytes string
  pub answer : Result Taken NodeFault
  pub answers : AnswersKeep (state_of model before.placed.node) bytes answer
  pub leaves : LeavesKept model before.placed.node after.placed.node bytes answer
  pub stays : StaysPlaced before after
  pub sends : Sends model bytes answer before after
  pub told : reply_to (Sent (length before.sent)) answer ≡ Ok reply

-- `take`, or `npss_node_take`, of any bytes
pub record CallsTake {T : Type 0} (model : T → VersionData) (bytes : List ℕ) (before : Stage T) (reply : Reply) (after : Stage T) : Type 0 where
  pub answer : Result Taken NodeFault
  pub answers : AnswersTake (state_of model before.placed.node) bytes answer
  pub leaves : LeavesTaken before.placed.node after.placed.node bytes answer
  pub stays : StaysPlaced before after
  pub sent : after.sent ≡ before.sent
  pub told : reply_to Kept answer ≡ Ok reply

-- `take` of the message of a number; without such a message nothing is called
abbrev pub CallsDeliver : {T : Type 0} → (T → VersionData) → ℕ → Stage T → Reply → Stage T → Type 0
CallsDeliver model message before reply after =
    MatchOption (slice_get before.sent message) ((reply ≡ NoMessage) × (after ≡ before)) (λ bytes. CallsTake model bytes before reply after)

-- `forget`, or `npss_node_forget`
pub record CallsForget {T : Type 0} (string : List ℕ) (before : Stage T) (reply : Reply) (after : Stage T) : Type 0 where
  pub bytes : List ℕ
  pub spells : Spells bytes string
  pub answer : Bool
  pub leaves : Forgets before.placed.node after.placed.node bytes answer
  pub stays : StaysPlaced before after
  pub sent : after.sent ≡ before.sent
  pub told : reply ≡ forgetting_reply answer

-- `same`, or `npss_node_same`
pub record CallsSame {T : Type 0} (model : T → VersionData) (left right : List ℕ) (before : Stage T) (reply : Reply) (after : Stage T) : Type 0 where
  pub first : List ℕ
  pub second : List ℕ
  pub spells_left : Spells first left
  pub spells_right : Spells second right
  pub answer : Option Bool
  pub answers : AnswersSame (state_of model before.placed.node) first second answer
  pub same : after ≡ before
  pub told : reply ≡ comparing_reply answer

-- `upgrade`, or `npss_node_upgrade`, to the next table of the row
pub record GoesOn {T : Type 0} (rules : Rules T) (before : Stage T) (reply : Reply) (after : Stage T) : Type 0 where
  pub table : T
  pub next : slice_get rules.tables (before.placed.index + 1) ≡ Some table
  pub now : after ≡ record before { placed = record before.placed { index = before.placed.index + 1; node = record before.placed.node { table = table } } }
  pub told : reply ≡ Version (before.placed.index + 1)

-- there is no next table, and nothing is called
pub record HasLast {T : Type 0} (rules : Rules T) (before : Stage T) (reply : Reply) (after : Stage T) : Type 0 where
  pub last : length rules.tables ≤ before.placed.index + 1
  pub same : after ≡ before
  pub told : reply ≡ LastVersion

abbrev pub CallsUpgrade : {T : Type 0} → Rules T → Stage T → Reply → Stage T → Type 0
CallsUpgrade rules before reply after = GoesOn rules before reply after ⊎ HasLast rules before reply after

-- `image`, or `npss_node_image`: its bytes are the last image now
pub record CallsImage {T : Type 0} (model : T → VersionData) (before : Stage T) (reply : Reply) (after : Stage T) : Type 0 where
  pub image : List ℕ
  pub spelling : image ≡ image_bytes (image_of (Some (assigned_count (model before.placed.node.table))) (state_of model before.placed.node))
  pub now : after ≡ record before { placed = record before.placed { image = Some image } }
  pub told : reply ≡ Saved

-- what a node with a table begins again with: `restore`, or `npss_node_restore`, of the last image; without one it is new
abbrev pub AnswersAgain : {T : Type 0} → (T → VersionData) → Rules T → T → Option (List ℕ) → Result (NodeState T) ImageFault → Type 0
AnswersAgain model rules table None answer = answer ≡ Ok (empty_node rules table)
AnswersAgain model rules table (Some image) answer = AnswersRestore model table rules.form rules.room image answer

-- the node of the answer takes the place of what was there; a refusal changes nothing
abbrev pub LeavesAgain : {T : Type 0} → ℕ → Result (NodeState T) ImageFault → Stage T → Reply → Stage T → Type 0
LeavesAgain place (Ok node) before reply after =
    (reply ≡ Restarted) × (after ≡ record before { placed = record before.placed { index = place; node = node } })
LeavesAgain place (Err refused) before reply after = (refusal_of refused.fault ≡ Ok reply) × (after ≡ before)

-- what a node begins again with under the version at a place of the row
pub record RestoresAt {T : Type 0} (model : T → VersionData) (rules : Rules T) (place : ℕ) (placed : PlacedNode T)
    (answer : Result (NodeState T) ImageFault) : Type 0 where
  pub table : T
  pub here : slice_get rules.tables place ≡ Some table
  pub answers : AnswersAgain model rules table placed.image answer

pub record CallsRestore {T : Type 0} (model : T → VersionData) (rules : Rules T) (place : ℕ) (before : Stage T) (reply : Reply)
    (after : Stage T) : Type 0 where
  pub answer : Result (NodeState T) ImageFault
  pub restores : RestoresAt model rules place before.placed answer
  pub leaves : LeavesAgain place answer before reply after

-- an event, done by a node
abbrev pub Calls : {T : Type 0} → (T → VersionData) → Rules T → Event → Stage T → Reply → Stage T → Type 0
Calls model rules (Accept node string) before reply after = CallsAccept model string before reply after
Calls model rules (Deliver node message) before reply after = CallsDeliver model message before reply after
Calls model rules (Upgrade node) before reply after = CallsUpgrade rules before reply after
Calls model rules (Save node) before reply after = CallsImage model before reply after
Calls model rules (Restart node) before reply after = CallsRestore model rules before.placed.index before reply after
Calls model rules (Ask node left right) before reply after = CallsSame model left right before reply after
Calls model rules (Forge node bytes) before reply after = CallsTake model bytes before reply after
Calls model rules (Forget node string) before reply after = CallsForget string before reply after
Calls model rules (RestartUnder node place) before reply after = CallsRestore model rules place before reply after
