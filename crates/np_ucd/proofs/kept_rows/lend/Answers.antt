use Rattle.std.proofs.Common.{rules}
use Rattle.np_ucd.proofs.kept_rows.lend.Goals as goal

pub returns : goal.returns
returns c = search rules
