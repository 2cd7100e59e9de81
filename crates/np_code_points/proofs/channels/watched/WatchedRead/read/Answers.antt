use Rattle.std.proofs.Common.{rules}
use Rattle.np_code_points.proofs.channels.watched.WatchedRead.read.Goals as goal

pub returns-else-failed-clause-mark : goal.returns-else-failed-clause-mark
returns-else-failed-clause-mark c = search rules
