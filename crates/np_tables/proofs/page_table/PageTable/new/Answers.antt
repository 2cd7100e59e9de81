use Rattle.np_tables.proofs.page_table.PageTable.new.Goals as goal

pub of_parts-requires-clause-quick_checks : goal.of_parts-requires-clause-quick_checks
of_parts-requires-clause-quick_checks c = c.in_ok-kept.ensures.quick_checks
