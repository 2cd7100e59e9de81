use Rattle.std.proofs.Common.{refl}
use Rattle.np_jobs.proofs.normalize.NormalizeJobStreamingJob.stream.Goals as goal

pub returns-in-Ok-clause-done : goal.returns-in-Ok-clause-done
returns-in-Ok-clause-done g c = ((c.in-Ok.field-0, record { ends = c.in-Ok.ensures.ends; read = c.in-Ok.ensures.read; written = c.in-Ok.ensures.write }), refl)

pub returns-in-Err-clause-stopped : goal.returns-in-Err-clause-stopped
returns-in-Err-clause-stopped g c = (c.in-Err.fault, c.job_fault_of.ensures, record { ends = c.in-Err.ensures.ends; read = c.in-Err.ensures.read; written = c.in-Err.ensures.write })
