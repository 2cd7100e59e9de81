use Rattle.std.proofs.Common.{rules}
use Rattle.np_forms.proofs.ordering.may_follow.Goals as goal

pub returns-else-class-eq0 : goal.returns-else-class-eq0
returns-else-class-eq0 c = search rules
