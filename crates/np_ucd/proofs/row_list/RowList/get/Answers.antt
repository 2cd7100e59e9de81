use Rattle.std.proofs.Common.{rules}
use Rattle.np_ucd.proofs.row_list.RowList.get.Goals as goal

pub returns : goal.returns
returns c = search rules
