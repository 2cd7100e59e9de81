use Rattle.std.proofs.Common.{rules}
use Rattle.np_lines.proofs.pending.Pending.close_line.Goals as goal

pub returns-clause-told : goal.returns-clause-told
returns-clause-told c = search rules

pub returns-clause-out : goal.returns-clause-out
returns-clause-out c = search rules
