-- How each call of a node ends. What the node answered is told by a status and what stands beside it, exactly: what a status has
-- no use for is 0.
use Rattle.std.specs.Prelude.{◌≡◌, ℕ, Bool, true, false, List, Option, Some, Result, Ok, Err}
use Rattle.np_node.specs.Accepting.{AnswersKeep, LeavesKept}
use Rattle.np_node.specs.Forgetting.{Forgets}
use Rattle.np_node.specs.Nodes.{State, state_of}
use Rattle.np_node.specs.Taking.{AnswersTake, LeavesTaken}
use Rattle.np_node.specs.declared.faults.NodeFault.{NodeFault}
use Rattle.np_node.specs.declared.faults.NodeFault.TheVariants.{Malformed, OtherForm, TooLong, NotUtf8, Unassigned, KeyDiffers, Full, Memory, OlderTables}
use Rattle.np_node.specs.declared.taking.Taken.{Taken}
use Rattle.np_node.specs.declared.taking.Taken.TheVariants.{Kept, Known}
use Rattle.np_versions.specs.Versions.{VersionData}
use Rattle.np_c.specs.Contents.{HeldNode, node_in}
use Rattle.np_c.specs.Versions.{content_of}
use Rattle.np_c.specs.declared.answers.Answer.{Answer}
use Rattle.np_c.specs.declared.handles.Handle.{Handle}

-- none where the handle is closed, or holds another thing
abbrev pub node_of : Handle → Option HeldNode
node_of handle = node_in (content_of handle)

abbrev pub itself : VersionData → VersionData
itself v = v

abbrev pub state_in : HeldNode → State
state_in node = state_of itself node

-- ---- statuses

-- a status alone
abbrev pub alone : ℕ → Answer
alone status = record { status = status; fault = 0; code = 0; place = 0; length = 0 }

-- a status and a place
abbrev pub at_place : ℕ → ℕ → Answer
at_place status place = record { status = status; fault = 0; code = 0; place = place; length = 0 }

abbrev pub told_fault : NodeFault → Answer
told_fault (Malformed at) = at_place 17 at
told_fault OtherForm = alone 18
told_fault TooLong = alone 15
told_fault (NotUtf8 at) = at_place 2 at
told_fault (Unassigned at code) = record { status = 1; fault = 0; code = code; place = at; length = 0 }
told_fault KeyDiffers = alone 19
told_fault Full = alone 16
told_fault Memory = alone 4
told_fault (OlderTables need have) = record { status = 20; fault = 0; code = 0; place = need; length = have }

abbrev pub told_taken : Result Taken NodeFault → Answer
told_taken (Ok Kept) = alone 0
told_taken (Ok Known) = alone 13
told_taken (Err fault) = told_fault fault

-- whether a string was kept
abbrev pub told_kept : Bool → Answer
told_kept true = alone 0
told_kept false = alone 14

-- ---- strings that come and go

-- `npss_node_accept`
pub record IsAcceptAnswer (old new : HeldNode) (string : List ℕ) (a : Answer) : Type 0 where
  pub outcome : Result Taken NodeFault
  pub answers : AnswersKeep (state_in old) string outcome
  pub leaves : LeavesKept itself old new string outcome
  pub told : a ≡ told_taken outcome

-- `npss_node_take`
pub record IsTakeAnswer (old new : HeldNode) (message : List ℕ) (a : Answer) : Type 0 where
  pub outcome : Result Taken NodeFault
  pub answers : AnswersTake (state_in old) message outcome
  pub leaves : LeavesTaken old new message outcome
  pub told : a ≡ told_taken outcome

-- `npss_node_forget`
pub record IsForgetAnswer (old new : HeldNode) (string : List ℕ) (a : Answer) : Type 0 where
  pub outcome : Bool
  pub leaves : Forgets old new string outcome
  pub told : a ≡ told_kept outcome

-- ---- handles

-- the handle holds a node with this property
abbrev pub IsChanged : Handle → (HeldNode → Type 0) → Type 0
IsChanged handle P = (new : HeldNode) × (node_of handle ≡ Some new) × P new

-- the handle holds no node, and nothing changed
pub record IsClosedNode (before after : Handle) (a : Answer) : Type 0 where
  pub told : a ≡ alone 5
  pub same : content_of after ≡ content_of before
