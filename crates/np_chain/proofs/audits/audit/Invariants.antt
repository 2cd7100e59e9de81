use Rattle.std.proofs.Common.{◌≡◌}
use Rattle.np_chain.specs.inside.BreakLists.{breaks_below}
use Rattle.np_chain.proofs.audits.audit.Given as goal

abbrev pub invariant-loop-code : goal.invariant-loop-code
invariant-loop-code l = l.breaks.items ≡ breaks_below l.old l.new l.code
