use Rattle.std.proofs.Common.{length}
use Rattle.np_tables.proofs.quick_checks.quick_checks_at.Goals as goal

pub bounds-quick_checks-place_in : goal.bounds-quick_checks-place_in
bounds-quick_checks-place_in c = c.place_in.ensures.within (length c.args.quick_checks.now) c.requires
