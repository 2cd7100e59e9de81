use Rattle.std.proofs.Common.{rules}
use Rattle.np_jobs.proofs.ending.finish.Goals as goal

pub returns-in-Ok : goal.returns-in-Ok
returns-in-Ok c = search rules
