use Rattle.std.proofs.Common.{length}
use Rattle.np_forms.proofs.Words.{IsReadAssigned}
use Rattle.np_forms.proofs.assigned.first_unassigned_char.Given as goal

abbrev pub invariant-scan : goal.invariant-scan
invariant-scan g l = IsReadAssigned (g.T.NormTable.model l.table) l.text l.rest

abbrev pub decreases-scan : goal.decreases-scan
decreases-scan g l = length l.rest
