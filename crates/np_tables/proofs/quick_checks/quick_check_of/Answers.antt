use Rattle.std.proofs.Common.{sym, ◌∙◌}
use Rattle.np_tables.specs.inside.QuickChecks.{quick_check_of}
use Rattle.np_tables.proofs.quick_checks.quick_check_of.Goals as goal

pub returns-then-is_yes : goal.returns-then-is_yes
unfolding quick_check_of
returns-then-is_yes c = rw (c.if-properties.false, sym c.is_yes.ensures ∙ c.if-is_yes.true)
