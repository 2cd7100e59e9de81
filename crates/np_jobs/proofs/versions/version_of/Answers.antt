use Rattle.std.proofs.Common.{refl}
use Rattle.np_jobs.proofs.versions.version_of.Goals as goal

pub returns-in-Err-clause-refused : goal.returns-in-Err-clause-refused
returns-in-Err-clause-refused c = (_, refl, c.in-Err.ensures.fault)
