use Rattle.std.proofs.Common.{rules}
use Rattle.np_code_points.proofs.channels.output.write_out.Goals as goal

pub returns-clause-ok : goal.returns-clause-ok
returns-clause-ok c = search rules
