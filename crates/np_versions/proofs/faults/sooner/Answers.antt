use Rattle.std.proofs.Common.{rules}
use Rattle.np_versions.proofs.faults.sooner.Goals as goal

pub returns-then-place : goal.returns-then-place
returns-then-place c = search rules

pub returns-else-place : goal.returns-else-place
returns-else-place c = search rules
