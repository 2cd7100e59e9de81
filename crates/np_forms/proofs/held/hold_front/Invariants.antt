use Rattle.std.proofs.Common.{length}
use Rattle.np_forms.proofs.Words.{chars_rest, IsFrontHeld}
use Rattle.np_forms.proofs.held.hold_front.Given as goal

abbrev pub invariant-scan : goal.invariant-scan
invariant-scan g l = IsFrontHeld (g.T.NormTable.model l.table) l.compat l.text (chars_rest l.iter) l.fn.pending.items l.pending.items

abbrev pub decreases-scan : goal.decreases-scan
decreases-scan g l = length (chars_rest l.iter)
