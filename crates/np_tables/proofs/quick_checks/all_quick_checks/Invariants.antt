use Rattle.std.proofs.Common.{◌≡◌, take}
use Rattle.np_tables.specs.inside.QuickChecks.{all_quick_checks as spec_all_quick_checks}
use Rattle.np_tables.proofs.quick_checks.all_quick_checks.Given as goal

abbrev pub invariant-loop-properties : goal.invariant-loop-properties
invariant-loop-properties l = l.quick_checks.items ≡ spec_all_quick_checks (take l.properties-index l.all_properties)
