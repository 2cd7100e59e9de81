use Rattle.np_versions.proofs.FaultLemmas.{RowsHold}
use Rattle.np_versions.proofs.mapped_faults.first_lacking.Given as goal

abbrev pub invariant-loop-at : goal.invariant-loop-at
invariant-loop-at l = RowsHold l.characters l.at
