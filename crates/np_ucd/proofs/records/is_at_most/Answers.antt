use Rattle.std.proofs.Common.{rules}
use Rattle.np_ucd.proofs.records.is_at_most.Goals as goal

pub returns-in-Some : goal.returns-in-Some
returns-in-Some c = search rules
