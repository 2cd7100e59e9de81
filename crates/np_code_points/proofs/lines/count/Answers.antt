use Rattle.std.proofs.Common.{rules}
use Rattle.np_code_points.proofs.lines.count.Goals as goal

pub returns-then-bytes-lt-STEP : goal.returns-then-bytes-lt-STEP
returns-then-bytes-lt-STEP c = search rules
