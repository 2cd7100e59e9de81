use Rattle.std.proofs.Common.{rules}
use Rattle.np_code_points.proofs.channels.watched.WatchedWrite.flush.Goals as goal

pub returns-else-is_err-clause-mark : goal.returns-else-is_err-clause-mark
returns-else-is_err-clause-mark c = search rules
