-- Nodes whose table is that of their place.
use Rattle.std.specs.Prelude.{◌≡◌, Some, slice_get}
use Rattle.np_world.specs.Reports.{PlacedNode}
use Rattle.np_world.specs.Moments.{Rules}

abbrev pub IsPlaced : {T : Type 0} → Rules T → PlacedNode T → Type 0
IsPlaced rules placed = slice_get rules.tables placed.index ≡ Some placed.node.table
