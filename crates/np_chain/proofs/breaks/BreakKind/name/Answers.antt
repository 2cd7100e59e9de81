use Rattle.std.proofs.Common.{rules}
use Rattle.np_chain.proofs.breaks.BreakKind.name.Goals as goal

pub returns-in-NowIncluded : goal.returns-in-NowIncluded
returns-in-NowIncluded c = search rules
