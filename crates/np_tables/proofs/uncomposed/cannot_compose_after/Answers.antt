use Rattle.std.proofs.Common.{rules}
use Rattle.np_tables.proofs.uncomposed.cannot_compose_after.Goals as goal

pub returns-in-None : goal.returns-in-None
returns-in-None c = search rules
