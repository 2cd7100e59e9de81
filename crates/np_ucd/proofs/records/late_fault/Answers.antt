use Rattle.std.proofs.Common.{rules}
use Rattle.np_ucd.proofs.records.late_fault.Goals as goal

pub returns-then-differs : goal.returns-then-differs
returns-then-differs c = search rules

pub returns-then-maps-2 : goal.returns-then-maps-2
returns-then-maps-2 c = search rules

pub returns-else-closes-3 : goal.returns-else-closes-3
returns-else-closes-3 c = search rules

pub returns-then-not-is_scalar : goal.returns-then-not-is_scalar
returns-then-not-is_scalar c = rw (c.if-maps.true, ← c.is_scalar.ensures, c.if-not-is_scalar.true)
