use Rattle.std.proofs.Common.{rules}
use Rattle.np_ucd.proofs.rows.Rows.iter.Goals as goal

pub returns-clause-rows : goal.returns-clause-rows
returns-clause-rows c = search rules
