use Rattle.std.proofs.Common.{rules}
use Rattle.np_code_points.proofs.channels.output.flush_once.Goals as goal

pub returns-in-Err-clause-failed : goal.returns-in-Err-clause-failed
returns-in-Err-clause-failed c = search rules
