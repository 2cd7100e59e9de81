use Rattle.std.proofs.Common.{rules}
use Rattle.np_tables.proofs.page_table.PageTableNormTable.class.Goals as goal

pub returns : goal.returns
returns c = search rules
