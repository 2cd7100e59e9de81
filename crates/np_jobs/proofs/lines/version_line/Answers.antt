use Rattle.std.proofs.Common.{rules}
use Rattle.np_jobs.proofs.lines.version_line.Goals as goal

pub returns-in-Data-clause-line : goal.returns-in-Data-clause-line
returns-in-Data-clause-line c = search rules
