use Rattle.std.proofs.Common.{rules}
use Rattle.np_c.proofs.lines.put_answers.Goals as goal

pub returns-clause-told : goal.returns-clause-told
returns-clause-told c = search rules
