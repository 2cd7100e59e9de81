use Rattle.std.proofs.Common.{◌≡◌, take}
use Rattle.np_versions.specs.inside.Depths.{row_marks}
use Rattle.np_versions.proofs.depths.bare_marks.Given as goal

abbrev pub invariant-loop-at : goal.invariant-loop-at
invariant-loop-at l = l.marks.items ≡ take l.at (row_marks l.characters 0)
