use Rattle.std.proofs.Common.{length}
use Rattle.np_forms.proofs.Words.{chars_rest, IsReadAssigned}
use Rattle.np_forms.proofs.assigned.first_unassigned_in_version.Given as goal

abbrev pub invariant-scan : goal.invariant-scan
invariant-scan l = IsReadAssigned l.version l.text (chars_rest l.iter)

abbrev pub decreases-scan : goal.decreases-scan
decreases-scan l = length (chars_rest l.iter)
