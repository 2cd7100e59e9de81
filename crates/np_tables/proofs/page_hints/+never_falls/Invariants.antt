use Rattle.std.proofs.Common.{length}
use Rattle.np_tables.proofs.page_hints.+never_falls.Given as goal

abbrev pub decreases-never_falls : goal.decreases-never_falls
decreases-never_falls l = length l.list.now
