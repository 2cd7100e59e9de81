use Rattle.std.proofs.Common.{rules}
use Rattle.np_ucd.proofs.faults.UcdFault.name.Goals as goal

pub returns-in-RangeOpen : goal.returns-in-RangeOpen
returns-in-RangeOpen c = search rules
