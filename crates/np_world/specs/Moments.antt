-- What there is at a moment of a history: nodes over the versions of one row, and the messages that were sent. A table is
-- whatever has a version, and `model` tells which.
use Rattle.std.specs.Prelude.{◌≡◌, ℕ, ◌≤◌, List, [], ◌∷◌, map, slice_get, Some, None}
use Rattle.np_chain.specs.Chain.{IsSoundChain}
use Rattle.np_code_points.specs.declared.forms.Form.{Form}
use Rattle.np_node.specs.Nodes.{NodeState}
use Rattle.np_versions.specs.Versions.{VersionData}
use Rattle.np_world.specs.Reports.{PlacedNode}

-- what holds for all nodes: the tables of the versions in a row, the form, and how many strings a node may keep
pub record Rules (T : Type 0) : Type 0 where
  pub tables : List T
  pub form : Form
  pub room : ℕ

-- the model where versions stand in the place of tables, as in the contracts of the C calls
abbrev pub itself : VersionData → VersionData
itself v = v

-- the versions are a chain, and a node may have such a room
pub record AreRules {T : Type 0} (model : T → VersionData) (rules : Rules T) : Type 0 where
  pub chain : IsSoundChain (map model rules.tables)
  pub room : rules.room ≤ 65536

-- the nodes in the order of their numbers, and the messages that were sent, in the order of theirs
pub record Moment (T : Type 0) : Type 0 where
  pub nodes : List (PlacedNode T)
  pub sent : List (List ℕ)

-- a node that keeps nothing
abbrev pub empty_node : {T : Type 0} → Rules T → T → NodeState T
empty_node rules table = record { table = table; form = rules.form; room = rules.room; entries = [] }

-- a node that keeps nothing under the version at a place, and has no image
pub record IsNewAt {T : Type 0} (rules : Rules T) (place : ℕ) (placed : PlacedNode T) : Type 0 where
  pub table : T
  pub here : slice_get rules.tables place ≡ Some table
  pub is : placed ≡ record { index = place; node = empty_node rules table; image = None }

-- such a node for each of the places
abbrev pub AreNewAt : {T : Type 0} → Rules T → List ℕ → List (PlacedNode T) → Type 0
AreNewAt rules [] [] = Unit {0}
AreNewAt rules (place ∷ places) (placed ∷ nodes) = IsNewAt rules place placed × AreNewAt rules places nodes
AreNewAt rules [] (placed ∷ nodes) = ⊥
AreNewAt rules (place ∷ places) [] = ⊥

-- each node is new under the version at its place, and nothing was sent
pub record IsStart {T : Type 0} (rules : Rules T) (places : List ℕ) (first : Moment T) : Type 0 where
  pub nodes : AreNewAt rules places first.nodes
  pub sent : first.sent ≡ []
