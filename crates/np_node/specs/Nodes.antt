-- What contracts see of a node, and what holds of it.
use Rattle.std.specs.Prelude.{◌≢◌, ℕ, ◌≤◌, ◌<◌, List, [], ◌∷◌, ◌++◌, length, map, All, AllPairs, Contains}
use Rattle.np_code_points.specs.declared.forms.Form.{Form}
use Rattle.np_node.specs.Strings.{Entry, IsEntry, IsKeepable}
use Rattle.np_versions.specs.Conditions.{IsSound}
use Rattle.np_versions.specs.Versions.{VersionData}

-- the table, the form, the most entries, and the entries in the order in which they were kept
pub record NodeState (T : Type 0) : Type 0 where
  pub table : T
  pub form : Form
  pub room : ℕ
  pub entries : List Entry

-- the same with the table's version in place of the table
pub record State : Type 0 where
  pub version : VersionData
  pub form : Form
  pub room : ℕ
  pub entries : List Entry

abbrev pub state_of : {T : Type 0} → (T → VersionData) → NodeState T → State
state_of model node = record { version = model node.table; form = node.form; room = node.room; entries = node.entries }

-- the strings in their order
abbrev pub strings_of : List Entry → List (List ℕ)
strings_of entries = map (λ e. e.string) entries

-- one of the entries has the string
abbrev pub IsKept : List Entry → List ℕ → Type 0
IsKept entries string = Contains (strings_of entries) string

-- no two entries have one string
abbrev pub AreUnlike : List Entry → Type 0
AreUnlike entries = AllPairs (λ a b. a ≢ b) (strings_of entries)

-- what holds of every node: its version meets the conditions, each string may be kept under the table's version and stands beside its key, no string stands
-- twice, and there are at most as many entries as the room, which is at most 65,536
pub record IsNode (node : State) : Type 0 where
  pub sound : IsSound node.version
  pub entries : All (IsEntry node.version node.form) node.entries
  pub unlike : AreUnlike node.entries
  pub fits : length node.entries ≤ node.room
  pub room : node.room ≤ 65536

-- a string that may be kept and isn't yet
pub record IsNew (node : State) (string : List ℕ) : Type 0 where
  pub keepable : IsKeepable node.version string
  pub absent : ¬ IsKept node.entries string

-- a new string that the node has room for
pub record HasPlace (node : State) (string : List ℕ) : Type 0 where
  pub new : IsNew node string
  pub room : length node.entries < node.room

-- a new string that the node has no room for
pub record HasNoPlace (node : State) (string : List ℕ) : Type 0 where
  pub new : IsNew node string
  pub full : node.room ≤ length node.entries

-- the node with one more entry, behind the others
abbrev pub with_entry : {T : Type 0} → NodeState T → Entry → NodeState T
with_entry node entry = record node { entries = node.entries ++ entry ∷ [] }
