use Rattle.std.proofs.Common.{rules}
use Rattle.np_jobs.proofs.audit.make_audit.Goals as goal

pub returns : goal.returns
returns c = search rules
