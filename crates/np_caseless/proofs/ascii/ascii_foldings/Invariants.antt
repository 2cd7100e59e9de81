use Rattle.std.proofs.Common.{ℕ, ◌<◌, ◌≤◌, ◌-◌, get_or, length}
use Rattle.np_caseless.specs.inside.AsciiFoldings.{FoldsToByte}
use Rattle.np_caseless.proofs.ascii.ascii_foldings.Given as goal

abbrev pub invariant-bytes : goal.invariant-bytes
invariant-bytes g l = (length l.bytes.items ≤ 128) × ((c : ℕ) → c < length l.bytes.items → FoldsToByte l.foldings c (get_or l.bytes.items c 0))

abbrev pub decreases-bytes : goal.decreases-bytes
decreases-bytes g l = 128 - length l.bytes.items
