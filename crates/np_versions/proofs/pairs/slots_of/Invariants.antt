use Rattle.std.proofs.Common.{◌≡◌}
use Rattle.np_versions.proofs.pairs.slots_of.Given as goal

abbrev pub invariant-loop-at : goal.invariant-loop-at
invariant-loop-at l = l.slots.len ≡ 8192
