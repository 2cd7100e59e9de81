use Rattle.std.proofs.Common.{rules}
use Rattle.np_lines_job.proofs.job.job_fault_of.Goals as goal

pub returns-in-WriteFailed : goal.returns-in-WriteFailed
returns-in-WriteFailed c = search rules
