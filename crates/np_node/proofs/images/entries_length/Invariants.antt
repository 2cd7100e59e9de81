use Rattle.std.proofs.Common.{◌≡◌, ◌≤◌, ◌*◌, length, take, Some}
use Rattle.np_node.specs.Images.{entries_bytes}
use Rattle.np_node.proofs.images.entries_length.Given as goal

abbrev pub invariant-loop-index : goal.invariant-loop-index
invariant-loop-index l = record { sum : l.length ≡ length (entries_bytes (Some 0) (take l.index l.entries)); bound : l.length ≤ l.index * 17179869184 }
