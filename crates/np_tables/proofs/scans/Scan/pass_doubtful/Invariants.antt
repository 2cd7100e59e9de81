use Rattle.std.proofs.Common.{ℕ, ◌+◌, ◌<◌, ◌≤◌, drop, length, slice_index}
use Rattle.np_tables.specs.inside.Scans.{AreLeft, ScansOn}
use Rattle.np_tables.proofs.scans.Scan.pass_doubtful.Given as goal

abbrev pub invariant-doubtful : goal.invariant-doubtful
invariant-doubtful l = record {
  goes_on : ScansOn l.self (drop l.fn.reached.end l.text) l.fn.reached.low (drop l.end l.text) l.now;
  within : l.end ≤ length l.text;
  inside : (k : ℕ) → l.from + 64 ≤ k → k < l.end → slice_index l.text k < 192;
  left : AreLeft l.self l.text l.end l.from l.left;
}

abbrev pub decreases-doubtful : goal.decreases-doubtful
decreases-doubtful l = l.left
