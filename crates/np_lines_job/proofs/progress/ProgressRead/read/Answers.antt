use Rattle.std.proofs.Common.{rules}
use Rattle.np_lines_job.proofs.progress.ProgressRead.read.Goals as goal

pub returns-in-Ok-clause-bytes : goal.returns-in-Ok-clause-bytes
returns-in-Ok-clause-bytes c = search rules
