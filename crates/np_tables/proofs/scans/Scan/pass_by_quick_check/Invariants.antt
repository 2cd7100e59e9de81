use Rattle.std.proofs.Common.{length}
use Rattle.np_tables.specs.inside.Scans.{ScansOn}
use Rattle.np_tables.proofs.scans.Scan.pass_by_quick_check.Given as goal

abbrev pub invariant-scan : goal.invariant-scan
invariant-scan l = ScansOn l.self l.text l.fn.low l.passed.rest.now l.passed.low

abbrev pub decreases-scan : goal.decreases-scan
decreases-scan l = length l.passed.rest.now
