use Rattle.std.proofs.Common.{sym}
use Rattle.np_tables.proofs.QuickSpanLemmas.{quick_checks_of-yes_starters}
use Rattle.np_tables.proofs.quick_checks.quick_checks_of.Goals as goal

pub returns-then-properties-eq255 : goal.returns-then-properties-eq255
returns-then-properties-eq255 c = sym (quick_checks_of-yes_starters c.args.properties c.if-properties.true c.if-properties-eq255.true)
