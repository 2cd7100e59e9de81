use Rattle.np_tables.proofs.Words.{is_compat, of_kind, ArePrecomputedSoFar}
use Rattle.np_tables.proofs.precomputed_forms.PrecomputedForms.new.Given as goal

abbrev pub invariant-loop-slot : goal.invariant-loop-slot
invariant-loop-slot l = ArePrecomputedSoFar l.version l.form (of_kind (is_compat l.form) l.fulls) l.bytes.items l.ranges.items l.slot
