use Rattle.std.proofs.Common.{rules}
use Rattle.np_c.proofs.lines.end_in.Goals as goal

pub returns-in-0-clause-some : goal.returns-in-0-clause-some
returns-in-0-clause-some c = search rules
