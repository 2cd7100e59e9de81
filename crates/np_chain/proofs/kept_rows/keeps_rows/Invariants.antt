use Rattle.std.proofs.Common.{ℕ, ◌<◌}
use Rattle.np_chain.specs.inside.KeptRows.{IsKept}
use Rattle.np_chain.proofs.kept_rows.keeps_rows.Given as goal

abbrev pub invariant-loop-at : goal.invariant-loop-at
invariant-loop-at l = (at : ℕ) → at < l.at → IsKept l.old l.new at
