use Rattle.std.proofs.Common.{◌≡◌}
use Rattle.np_versions.specs.inside.Depths.{row_marks}
use Rattle.np_versions.proofs.depths.final_marks.Given as goal

abbrev pub invariant-loop-round : goal.invariant-loop-round
invariant-loop-round l = l.marks.items ≡ row_marks l.characters l.round
