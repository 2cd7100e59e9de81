use Rattle.std.proofs.Common.{◌≡◌, take}
use Rattle.np_ucd.proofs.row_list.RowList.of_rows.Given as goal

abbrev pub invariant-loop-at : goal.invariant-loop-at
invariant-loop-at l = l.kept ≡ take l.at l.fn.rows
