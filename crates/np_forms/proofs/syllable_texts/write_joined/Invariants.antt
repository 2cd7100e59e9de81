use Rattle.std.proofs.Common.{length}
use Rattle.np_forms.proofs.Words.{AppendsForm, IsReadAssigned, BeginsWithSyllable}
use Rattle.np_forms.proofs.syllable_texts.write_joined.Given as goal

abbrev pub invariant-scan : goal.invariant-scan
invariant-scan g l =
    let v = g.T.NormTable.model l.normalizer.table.now in
    AppendsForm v l.normalizer.form l.text l.rest l.fn.out l.out × IsReadAssigned v l.text l.rest × BeginsWithSyllable l.rest l.later l.syllable

abbrev pub decreases-scan : goal.decreases-scan
decreases-scan g l = length l.rest
