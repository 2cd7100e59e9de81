use Rattle.std.proofs.Common.{rules}
use Rattle.np_forms.proofs.held.finish.Goals as goal

pub returns-clause-ok : goal.returns-clause-ok
returns-clause-ok c = search rules
