use Rattle.std.proofs.Common.{ℕ, ◌-◌, ◌<◌, ◌≤◌, drop, length, slice_index}
use Rattle.np_tables.specs.inside.Scans.{AreYes, ScansOn}
use Rattle.np_tables.proofs.scans.Scan.pass_by_lead_bytes.Given as goal

-- up to `end` all was passed, and behind it stand starters that pass
abbrev pub invariant-lanes : goal.invariant-lanes
invariant-lanes l = record {
  from : l.from ≤ length l.text;
  end : l.reached.end ≤ length l.text;
  goes_on : ScansOn l.self l.text l.fn.low (drop l.reached.end l.text) l.reached.low;
  starters : AreYes l.self l.text l.reached.end l.from;
  inside : (k : ℕ) → l.from ≤ k → k < l.reached.end → slice_index l.text k < 192;
}

abbrev pub decreases-lanes : goal.decreases-lanes
decreases-lanes l = length l.text - l.from
