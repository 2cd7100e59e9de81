-- The laws of nodes, over the definitions alone.
use Rattle.std.specs.Prelude.{◌≡◌, ℕ, ◌≤◌, ◌<◌, ◌⊎◌, List, [], ◌++◌, slice_get, chars, All, Option, Some, None, Result, Ok, Err}
use Rattle.np_chain.specs.Chain.{IsSoundChain}
use Rattle.np_code_points.specs.declared.forms.Form.{Form}
use Rattle.np_forms.specs.Assigned.{IsAssigned, IsFirstUnassigned}
use Rattle.np_node.specs.Images.{Image, Needs, image_bytes, IsImage}
use Rattle.np_node.specs.Messages.{message_bytes}
use Rattle.np_node.specs.Nodes.{NodeState, State, state_of, IsNode}
use Rattle.np_node.specs.Restoring.{AnswersRestore, IsOlder, IsRestoreFault}
use Rattle.np_node.specs.Strings.{Entry, IsEntry, IsKey}
use Rattle.np_node.specs.Taking.{AnswersTake}
use Rattle.np_node.specs.declared.faults.ImageFault.{ImageFault}
use Rattle.np_node.specs.declared.faults.NodeFault.{NodeFault}
use Rattle.np_node.specs.declared.faults.NodeFault.TheVariants.{Malformed, OtherForm, TooLong, NotUtf8, Unassigned, KeyDiffers, Full, Memory, OlderTables}
use Rattle.np_node.specs.declared.taking.Taken.{Taken}
use Rattle.np_versions.specs.Counts.{assigned_count}
use Rattle.np_versions.specs.Versions.{VersionData}

-- bytes spell at most one value, and with bytes behind them none at all: no spelling is a proper prefix of another
abbrev pub SpellsOne : {A : Type 0} → (List ℕ → A → Type 0) → Type 0
SpellsOne {A} Spells = (bytes more : List ℕ) (a b : A) → Spells bytes a → Spells (bytes ++ more) b → (a ≡ b) × (more ≡ [])

-- bytes, which are numbers below 256, spell something or have a fault place
abbrev pub SpellsOrHasFault : {A : Type 0} → (List ℕ → A → Type 0) → (List ℕ → ℕ → Type 0) → Type 0
SpellsOrHasFault {A} Spells IsFault = (bytes : List ℕ) → All (λ b. b < 256) bytes → ((a : A) × Spells bytes a) ⊎ ((at : ℕ) × IsFault bytes at)

-- bytes that spell nothing have at most one fault place, and those that spell something have none
abbrev pub HasOneFault : {A : Type 0} → (List ℕ → A → Type 0) → (List ℕ → ℕ → Type 0) → Type 0
HasOneFault {A} Spells IsFault = (bytes : List ℕ) (at : ℕ) → IsFault bytes at
    → ((a : A) → ¬ Spells bytes a) × ((other : ℕ) → IsFault bytes other → other ≡ at)

-- a version of a chain, by its place
pub record IsIn (vs : List VersionData) (i : ℕ) (v : VersionData) : Type 0 where
  pub chain : IsSoundChain vs
  pub here : slice_get vs i ≡ Some v

-- a string that is assigned in two versions of a chain has one key under both
abbrev pub Exchange : Type 0
Exchange = (vs : List VersionData) (i j : ℕ) (v w : VersionData) (form : Form) (string key : List ℕ) → IsIn vs i v → IsIn vs j w
    → IsAssigned v (chars string) → IsAssigned w (chars string) → IsKey v form string key → IsKey w form string key

-- what `take` may answer to a message that `accept` gave: never that it is malformed, of another form, too long, not UTF-8 or
-- with another key, and that a code point is unassigned only where the receiver's version lacks it
abbrev pub IsFairAnswer : VersionData → List ℕ → Result Taken NodeFault → Type 0
IsFairAnswer w string (Ok answer) = Unit {0}
IsFairAnswer w string (Err (Unassigned at code)) = IsFirstUnassigned w (chars string) at code
IsFairAnswer w string (Err Full) = Unit {0}
IsFairAnswer w string (Err Memory) = Unit {0}
IsFairAnswer w string (Err (Malformed at)) = ⊥
IsFairAnswer w string (Err OtherForm) = ⊥
IsFairAnswer w string (Err TooLong) = ⊥
IsFairAnswer w string (Err (NotUtf8 at)) = ⊥
IsFairAnswer w string (Err KeyDiffers) = ⊥
IsFairAnswer w string (Err (OlderTables need have)) = ⊥

-- a message that was made under a version of a chain is taken fairly under every version of it
abbrev pub FairExchange : Type 0
FairExchange = (vs : List VersionData) (i j : ℕ) (v : VersionData) (node : State) (entry : Entry) (answer : Result Taken NodeFault)
    → IsIn vs i v → IsIn vs j node.version → IsEntry v node.form entry
    → AnswersTake node (message_bytes (record { form = node.form; entry = entry })) answer → IsFairAnswer node.version entry.string answer

-- what the image of a node under a version tells: in the second layout the count of its assigned code points
abbrev pub TellsCount : VersionData → Needs → Type 0
TellsCount v None = Unit {0}
TellsCount v (Some count) = count ≡ assigned_count v

-- the image of what a node keeps
abbrev pub image_of : Needs → State → Image
image_of needs node = record { needs = needs; form = node.form; entries = node.entries }

-- what holds of a node holds under another version too, and its image, of either layout, is never refused there, but for want
-- of memory
pub record IsSavedAs (node : State) (w : VersionData) : Type 0 where
  pub holds : IsNode (record node { version = w })
  pub spelled : (needs : Needs) → TellsCount node.version needs → IsImage (image_bytes (image_of needs node)) (image_of needs node)
  pub taken : (needs : Needs) (entry : Option ℕ) (fault : NodeFault) → TellsCount node.version needs
      → IsRestoreFault w node.form node.room (image_bytes (image_of needs node)) entry fault → fault ≡ Memory

-- so it is under each version of a chain that assigns no fewer code points: the node's own, each later one, and an earlier one
-- with as many
abbrev pub Saved : Type 0
Saved = (vs : List VersionData) (i j : ℕ) (w : VersionData) (node : State) → IsIn vs i node.version → IsIn vs j w
    → assigned_count node.version ≤ assigned_count w → IsNode node → IsSavedAs node w

-- the answer is the node itself, or that memory ran out
abbrev pub IsItself : {T : Type 0} → NodeState T → Result (NodeState T) ImageFault → Type 0
IsItself node (Ok again) = again ≡ node
IsItself node (Err refused) = refused ≡ record { entry = None; fault = Memory }

-- the image of a node that needs no more code points than the node's version assigns, of either layout, is restored under the
-- node's table, form and room as that node, or memory ran out
abbrev pub Restored : {T : Type 0} → (T → VersionData) → Type 0
Restored {T} model = (node : NodeState T) (needs : Needs) (answer : Result (NodeState T) ImageFault) → IsNode (state_of model node)
    → ¬ IsOlder (model node.table) needs
    → AnswersRestore model node.table node.form node.room (image_bytes (image_of needs (state_of model node))) answer → IsItself node answer

-- a later version of a chain has no fewer assigned code points
abbrev pub NeverFewer : Type 0
NeverFewer = (vs : List VersionData) (i j : ℕ) (v w : VersionData) → IsIn vs i v → IsIn vs j w → i ≤ j → assigned_count v ≤ assigned_count w
