use Rattle.np_caseless.specs.inside.BreakSteps.{AreBelow, IsNext}
use Rattle.np_caseless.proofs.audits.audit.Given as goal

abbrev pub invariant-loop-code : goal.invariant-loop-code
invariant-loop-code g l = record {
  next : IsNext l.of_versions.items l.next l.code;
  below : AreBelow l.old l.new l.code l.breaks.items;
}
