use Rattle.std.proofs.Common.{◌≡◌, ℕ, Some, length}
use Rattle.std.specs.List.{slice_get}
use Rattle.np_versions.specs.Versions.{class_of}
use Rattle.np_examples_shared.proofs.guest_table.first_classes.Given as goal

abbrev pub invariant-loop-code : goal.invariant-loop-code
invariant-loop-code l = (length l.kept.items ≡ l.code) × ((c class : ℕ) → slice_get l.kept.items c ≡ Some class → class ≡ class_of l.plain c)
