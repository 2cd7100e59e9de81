use Rattle.std.proofs.Common.{rules}
use Rattle.np_code_points.proofs.channels.watched.WatchedWrite.write.Goals as goal

pub returns-in-Ok-eq0-clause-mark : goal.returns-in-Ok-eq0-clause-mark
returns-in-Ok-eq0-clause-mark c = search rules
