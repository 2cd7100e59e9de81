use Rattle.std.proofs.Common.{ℕ, ◌+◌, ◌<◌}
use Rattle.np_tables.specs.inside.PageHints.{IsNeverSecond}
use Rattle.np_tables.proofs.page_hints.are_leading_never_second.Given as goal

abbrev pub invariant-loop-leading : goal.invariant-loop-leading
invariant-loop-leading l = (i : ℕ) → i < l.leading → IsNeverSecond l.version (0x1100 + i)
