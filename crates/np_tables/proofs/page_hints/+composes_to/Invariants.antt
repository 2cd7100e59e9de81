use Rattle.std.proofs.Common.{length}
use Rattle.np_tables.proofs.page_hints.+composes_to.Given as goal

abbrev pub decreases-composes_to : goal.decreases-composes_to
decreases-composes_to l = length l.rest.now
