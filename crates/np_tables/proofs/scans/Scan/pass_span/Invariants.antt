use Rattle.std.proofs.Common.{ℕ, ◌≤◌, length}
use Rattle.np_tables.specs.inside.PageProperties.{Follows, IsWalkedTo}
use Rattle.np_tables.proofs.scans.Scan.pass_span.Given as goal

abbrev pub invariant-scan : goal.invariant-scan
invariant-scan l = (last : ℕ) × (last ≤ l.low) × (l.self.least ≤ l.low) × IsWalkedTo (Follows l.self.version.now l.self.least l.self.index.now l.self.quick_checks.now l.self.form) l.text l.rest last

abbrev pub decreases-scan : goal.decreases-scan
decreases-scan l = length l.rest
