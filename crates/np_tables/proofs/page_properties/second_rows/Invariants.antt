use Rattle.np_tables.specs.inside.PageProperties.{AreSecondRows}
use Rattle.np_tables.proofs.page_properties.second_rows.Given as goal

abbrev pub invariant-loop-place : goal.invariant-loop-place
invariant-loop-place l = AreSecondRows l.version.entries l.pairs l.place l.seconds.items
