use Rattle.std.proofs.Common.{◌≡◌}
use Rattle.np_code_points.proofs.text.chars_of.Given as goal

abbrev pub invariant-loop-c : goal.invariant-loop-c
invariant-loop-c l = l.found.items ≡ l.yielded
