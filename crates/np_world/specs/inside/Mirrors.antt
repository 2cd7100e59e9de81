-- How nodes mirror those of the machine.
use Rattle.std.specs.Prelude.{◌≡◌, ℕ, ◌-◌, ◌≤◌, List, [], ◌∷◌, map, chars, slice_get, Option, Some, None, length}
use Rattle.np_node.specs.Images.{image_bytes}
use Rattle.np_node.specs.Messages.{IsMessage}
use Rattle.np_node.specs.Nodes.{State, state_of, strings_of, IsNode}
use Rattle.np_node.specs.Strings.{Entry, IsEntry}
use Rattle.np_versions.specs.Counts.{assigned_count}
use Rattle.np_versions.specs.Versions.{VersionData}
use Rattle.np_world.specs.Moments.{Rules, AreRules}
use Rattle.np_world.specs.Reports.{PlacedNode}
use Rattle.np_world.specs.World.{Setting, MachineNode, Scene}
use Rattle.np_world.specs.declared.replies.Reply.{Reply}

-- the strings of entries, as code points
abbrev pub texts_of : List Entry → List (List ℕ)
texts_of entries = map chars (strings_of entries)

-- the versions of the tables, the form and the room
abbrev pub setting_of : {T : Type 0} → (T → VersionData) → Rules T → Setting
setting_of model rules = record { versions = map model rules.tables; form = rules.form; room = rules.room }

-- a version of the setting has these entries as those of a node
abbrev pub saved_state : Setting → VersionData → List Entry → State
saved_state setting version entries = record { version = version; form = setting.form; room = setting.room; entries = entries }

-- the bytes are the image of what the machine's node saved, under a version with no more assigned code points than its present
-- one; where it never saved there are none
pub record HasImage (setting : Setting) (version : VersionData) (bytes : List ℕ) (saved : List (List ℕ)) (saved_at : Option ℕ) : Type 0 where
  pub at : ℕ
  pub saver : VersionData
  pub place : saved_at ≡ Some at
  pub saver_is : slice_get setting.versions at ≡ Some saver
  pub entries : List Entry
  pub spelling : bytes ≡ image_bytes (record { needs = Some (assigned_count saver); form = setting.form; entries = entries })
  pub node : IsNode (saved_state setting saver entries)
  pub strings : saved ≡ texts_of entries
  pub no_fewer : assigned_count saver ≤ assigned_count version

abbrev pub HasSaved : Setting → VersionData → Option (List ℕ) → List (List ℕ) → Option ℕ → Type 0
HasSaved setting version None saved saved_at = (saved ≡ []) × (saved_at ≡ None)
HasSaved setting version (Some bytes) saved saved_at = HasImage setting version bytes saved saved_at

-- a node has the place, the strings and the image of what the machine's node has
pub record Mirrors {T : Type 0} (model : T → VersionData) (rules : Rules T) (placed : PlacedNode T) (twin : MachineNode) : Type 0 where
  pub index : placed.index ≡ twin.index
  pub table : slice_get rules.tables placed.index ≡ Some placed.node.table
  pub form : placed.node.form ≡ rules.form
  pub room : placed.node.room ≡ rules.room
  pub node : IsNode (state_of model placed.node)
  pub strings : twin.strings ≡ texts_of placed.node.entries
  pub saved : HasSaved (setting_of model rules) (model placed.node.table) placed.image twin.saved twin.saved_at

-- the bytes are the message of a string that some node sent under its version
pub record IsMessageOf (setting : Setting) (bytes string : List ℕ) : Type 0 where
  pub entry : Entry
  pub place : ℕ
  pub version : VersionData
  pub here : slice_get setting.versions place ≡ Some version
  pub is : IsEntry version setting.form entry
  pub message : IsMessage bytes (record { form = setting.form; entry = entry })
  pub text : string ≡ chars entry.string

abbrev pub AreMessages : Setting → List (List ℕ) → List (List ℕ) → Type 0
AreMessages setting [] [] = Unit {0}
AreMessages setting (bytes ∷ more) (string ∷ strings) = IsMessageOf setting bytes string × AreMessages setting more strings
AreMessages setting [] (string ∷ strings) = ⊥
AreMessages setting (bytes ∷ more) [] = ⊥

-- the machine has such a step, and what it leaves is mirrored
pub record IsNodeStep {T : Type 0} (model : T → VersionData) (rules : Rules T)
    (deed : VersionData → VersionData → Scene → Reply → Scene → Type 0) (node : MachineNode) (sent : List (List ℕ))
    (version last : VersionData) (reply : Reply) (placed : PlacedNode T) (told : List (List ℕ)) : Type 0 where
  pub next : MachineNode
  pub more : List (List ℕ)
  pub does : deed version last (record { node = node; sent = sent }) reply (record { node = next; sent = more })
  pub mirrors : Mirrors model rules placed next
  pub messages : AreMessages (setting_of model rules) told more

-- from whatever the machine has that a node and the messages mirror
abbrev pub NodeSteps : {T : Type 0} (model : T → VersionData) (rules : Rules T)
    (deed : VersionData → VersionData → Scene → Reply → Scene → Type 0)
    (old : PlacedNode T) (sent : List (List ℕ)) (reply : Reply) (new : PlacedNode T) (messages : List (List ℕ)) → Type 0
NodeSteps model rules deed old sent reply new messages =
    (node : MachineNode) (strings : List (List ℕ)) (version last : VersionData)
    → AreRules model rules → Mirrors model rules old node → AreMessages (setting_of model rules) sent strings
    → slice_get (map model rules.tables) node.index ≡ Some version
    → slice_get (map model rules.tables) (length rules.tables - 1) ≡ Some last
    → IsNodeStep model rules deed node strings version last reply new messages
