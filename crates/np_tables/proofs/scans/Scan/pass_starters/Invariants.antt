use Rattle.std.proofs.Common.{◌≡◌, ℕ, ◌+◌, ◌<◌, ◌≤◌, slice_index}
use Rattle.std.specs.Int.{bit_at}
use Rattle.np_tables.specs.inside.Scans.{AreLeft}
use Rattle.np_tables.proofs.scans.Scan.pass_starters.Given as goal

abbrev pub invariant-doubtful : goal.invariant-doubtful
invariant-doubtful l = record {
  lead_byte : (k : ℕ) → k < 64 → bit_at l.left k ≡ 1 → 192 ≤ slice_index l.text (l.from + k);
  left : (end : ℕ) → AreLeft l.self l.text end l.from l.fn.doubtful → AreLeft l.self l.text end l.from l.left;
}

abbrev pub decreases-doubtful : goal.decreases-doubtful
decreases-doubtful l = l.left
