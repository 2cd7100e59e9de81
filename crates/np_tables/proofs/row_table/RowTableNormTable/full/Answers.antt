use Rattle.np_tables.proofs.FullListLemmas.{full_answers}
use Rattle.std.proofs.Common.{arith}
use Rattle.np_tables.proofs.row_table.RowTableNormTable.full.Goals as goal

pub returns-in-Some : goal.returns-in-Some
returns-in-Some c = grind (arith, full_answers)
