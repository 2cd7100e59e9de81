use Rattle.np_lines_job.proofs.job.LinesRunStreamingJob.stream.Goals as goal

pub returns-in-Ok-clause-done : goal.returns-in-Ok-clause-done
returns-in-Ok-clause-done g c = (c.in-Ok.any_refused, record { ends = c.in-Ok.ensures.ends; read = c.in-Ok.ensures.read; written = c.in-Ok.ensures.write }, c.status_of_run.ensures)

pub returns-in-Err-clause-stopped : goal.returns-in-Err-clause-stopped
returns-in-Err-clause-stopped g c = (c.in-Err.fault, c.job_fault_of.ensures, record { ends = c.in-Err.ensures.ends; read = c.in-Err.ensures.read; written = c.in-Err.ensures.write })
