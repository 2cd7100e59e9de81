use Rattle.np_tables.specs.inside.PageProperties.{AreAllRowProperties}
use Rattle.np_tables.proofs.page_properties.all_row_properties.Given as goal

abbrev pub invariant-loop-at : goal.invariant-loop-at
invariant-loop-at l = AreAllRowProperties l.version l.slots l.seconds l.at l.all_properties.items
