use Rattle.std.proofs.Common.{length}
use Rattle.np_forms.proofs.Words.{AppendsForm, IsReadAssigned}
use Rattle.np_forms.proofs.precomputed_texts.write_precomputed.Given as goal

abbrev pub invariant-letters : goal.invariant-letters
invariant-letters g l = AppendsForm (g.T.NormTable.model l.table) l.fn.form l.text l.rest l.initial.out l.out × IsReadAssigned (g.T.NormTable.model l.table) l.text l.rest

abbrev pub decreases-letters : goal.decreases-letters
decreases-letters g l = length l.rest
