use Rattle.std.proofs.Common.{◌≡◌, take}
use Rattle.np_tables.specs.inside.PageProperties.{paged_properties}
use Rattle.np_tables.proofs.page_properties.page_properties.Given as goal

abbrev pub invariant-loop-number : goal.invariant-loop-number
invariant-loop-number l = l.paged.items ≡ paged_properties l.all_properties (take l.number-index l.numbers)
