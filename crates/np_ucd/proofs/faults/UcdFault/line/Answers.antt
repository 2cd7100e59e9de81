use Rattle.std.proofs.Common.{rules}
use Rattle.np_ucd.proofs.faults.UcdFault.line.Goals as goal

pub returns-in-FieldCount : goal.returns-in-FieldCount
returns-in-FieldCount c = search rules
