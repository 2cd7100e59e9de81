use Rattle.np_tables.proofs.row_table.RowTableNormTable.pair.Goals as goal

pub returns-clause-some : goal.returns-clause-some
returns-clause-some c = rw (← c.self.view_is) c.composite_of.ensures.some

pub returns-clause-none : goal.returns-clause-none
returns-clause-none c = rw (← c.self.view_is) c.composite_of.ensures.none
