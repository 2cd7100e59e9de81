use Rattle.std.proofs.Common.{length}
use Rattle.np_tables.specs.inside.Scans.{ScansOn}
use Rattle.np_tables.proofs.scans.Scan.pass_few.Given as goal

abbrev pub invariant-few : goal.invariant-few
invariant-few l = ScansOn l.self l.text l.fn.low l.passed.rest.now l.passed.low

abbrev pub decreases-few : goal.decreases-few
decreases-few l = length l.passed.rest.now
