use Rattle.std.proofs.Common.{length}
use Rattle.np_tables.proofs.precomputed_forms.+write_composed.Given as goal

abbrev pub decreases-write_composed : goal.decreases-write_composed
decreases-write_composed l = length l.rest.now
