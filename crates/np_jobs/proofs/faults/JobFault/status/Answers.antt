use Rattle.std.proofs.Common.{rules}
use Rattle.np_jobs.proofs.faults.JobFault.status.Goals as goal

pub returns-in-WriteFailed : goal.returns-in-WriteFailed
returns-in-WriteFailed c = search rules
