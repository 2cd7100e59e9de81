-- What a node that begins again under the version at a place leaves, and why it may not.
use Rattle.std.specs.Prelude.{ℕ}
use Rattle.np_node.specs.Nodes.{NodeState}
use Rattle.np_node.specs.declared.faults.NodeFault.{NodeFault}
use Rattle.np_node.specs.declared.faults.NodeFault.TheVariants.{Malformed, OtherForm, TooLong, NotUtf8, Unassigned, KeyDiffers, OlderTables, Full, Memory}
use Rattle.np_versions.specs.Versions.{VersionData}
use Rattle.np_world.specs.Reports.{PlacedNode}
use Rattle.np_world.specs.World.{MachineNode, HasOlderTables}
use Rattle.np_world.specs.Moments.{Rules}
use Rattle.np_world.specs.inside.Mirrors.{Mirrors, setting_of}

-- the node with this node mirrors the machine's node under the version at the place, with what it saved
abbrev pub BeginsAgain : {T : Type 0} → (T → VersionData) → Rules T → PlacedNode T → ℕ → NodeState T → Type 0
BeginsAgain model rules placed place node =
    (twin : MachineNode) → Mirrors model rules placed twin
    → Mirrors model rules (record { index = place; node = node; image = placed.image }) (record twin { index = place; strings = twin.saved })

-- the machine's node has older tables there, or memory ran out
abbrev pub RefusesToBegin : {T : Type 0} → (T → VersionData) → Rules T → PlacedNode T → ℕ → NodeFault → Type 0
RefusesToBegin model rules placed place (OlderTables need have) =
    (twin : MachineNode) → Mirrors model rules placed twin → HasOlderTables (setting_of model rules) twin place need have
RefusesToBegin model rules placed place Memory = Unit {0}
RefusesToBegin model rules placed place (Malformed at) = ⊥
RefusesToBegin model rules placed place OtherForm = ⊥
RefusesToBegin model rules placed place TooLong = ⊥
RefusesToBegin model rules placed place (NotUtf8 at) = ⊥
RefusesToBegin model rules placed place (Unassigned at code) = ⊥
RefusesToBegin model rules placed place KeyDiffers = ⊥
RefusesToBegin model rules placed place Full = ⊥
