use Rattle.std.proofs.Common.{refl}
use Rattle.np_tables.proofs.row_table.RowTable.new.Goals as goal

pub returns : goal.returns
returns c = refl
