use Rattle.std.proofs.Common.{◌*◌}
use Rattle.np_tables.specs.inside.DoubtfulLeads.{HaveYesInCommon}
use Rattle.np_tables.proofs.doubtful_leads.common_of_parts.Given as goal

abbrev pub invariant-loop-part : goal.invariant-loop-part
invariant-loop-part l = HaveYesInCommon l.blocks l.quick_checks (l.fn.from * 64) (l.part * 64) l.common
