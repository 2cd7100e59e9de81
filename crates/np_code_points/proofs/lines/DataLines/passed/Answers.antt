use Rattle.std.proofs.Common.{rules}
use Rattle.np_code_points.proofs.lines.DataLines.passed.Goals as goal

pub returns : goal.returns
returns c = search rules
