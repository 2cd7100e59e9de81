use Rattle.std.proofs.Common.{length}
use Rattle.np_forms.proofs.Words.{chars_rest, IsReadAssigned}
use Rattle.np_forms.proofs.assigned.first_unassigned_of_few.Given as goal

abbrev pub invariant-scan : goal.invariant-scan
invariant-scan g l = IsReadAssigned (g.T.NormTable.model l.table) l.text (chars_rest l.iter)

abbrev pub decreases-scan : goal.decreases-scan
decreases-scan g l = length (chars_rest l.iter)
