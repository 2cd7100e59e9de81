use Rattle.std.proofs.Common.{length}
use Rattle.np_forms.proofs.Words.{chars_rest, IsDecomposedUpTo}
use Rattle.np_forms.proofs.decomposing.decompose_first.Given as goal

abbrev pub invariant-scan : goal.invariant-scan
invariant-scan g l = IsDecomposedUpTo (g.T.NormTable.model l.table) l.form l.text (chars_rest l.iter) l.list.items

abbrev pub decreases-scan : goal.decreases-scan
decreases-scan g l = length (chars_rest l.iter)
