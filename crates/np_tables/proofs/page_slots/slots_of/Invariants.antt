use Rattle.np_tables.specs.inside.PageProperties.{AreSlotsSoFar}
use Rattle.np_tables.proofs.page_slots.slots_of.Given as goal

abbrev pub invariant-loop-at : goal.invariant-loop-at
invariant-loop-at l = AreSlotsSoFar l.version l.at l.codes.items l.canonical.items l.compatible.items l.slots.items
