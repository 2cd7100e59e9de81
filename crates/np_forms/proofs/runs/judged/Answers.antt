use Rattle.std.proofs.Common.{rules}
use Rattle.np_forms.proofs.runs.judged.Goals as goal

pub returns-then-whole-clause-limit : goal.returns-then-whole-clause-limit
returns-then-whole-clause-limit c = search rules

pub returns-else-whole-clause-err : goal.returns-else-whole-clause-err
returns-else-whole-clause-err c = search rules
