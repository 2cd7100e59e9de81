use Rattle.std.proofs.Common.{rules}
use Rattle.np_lines.proofs.pending.Pending.go_on.Goals as goal

pub returns-clause-begun : goal.returns-clause-begun
returns-clause-begun c = search rules
