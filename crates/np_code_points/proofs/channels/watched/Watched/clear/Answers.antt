use Rattle.std.proofs.Common.{rules}
use Rattle.np_code_points.proofs.channels.watched.Watched.clear.Goals as goal

pub returns-clause-clear : goal.returns-clause-clear
returns-clause-clear c = search rules
