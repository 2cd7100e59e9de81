use Rattle.std.proofs.Common.{rules}
use Rattle.np_ucd.proofs.data.open_range.Goals as goal

pub returns-in_default : goal.returns-in_default
returns-in_default c = search rules
