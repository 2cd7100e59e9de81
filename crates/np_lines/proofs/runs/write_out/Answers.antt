use Rattle.std.proofs.Common.{rules}
use Rattle.np_lines.proofs.runs.write_out.Goals as goal

pub returns-clause-ok : goal.returns-clause-ok
returns-clause-ok c = search rules
