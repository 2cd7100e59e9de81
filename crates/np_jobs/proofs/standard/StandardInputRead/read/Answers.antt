use Rattle.std.proofs.Common.{rules}
use Rattle.np_jobs.proofs.standard.StandardInputRead.read.Goals as goal

pub returns-in-Closed-clause-closed : goal.returns-in-Closed-clause-closed
returns-in-Closed-clause-closed c = search rules
