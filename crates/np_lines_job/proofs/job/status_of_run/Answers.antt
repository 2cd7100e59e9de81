use Rattle.std.proofs.Common.{rules}
use Rattle.np_lines_job.proofs.job.status_of_run.Goals as goal

pub returns-then-any_refused : goal.returns-then-any_refused
returns-then-any_refused c = search rules
