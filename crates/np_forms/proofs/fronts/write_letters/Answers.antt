use Rattle.np_forms.proofs.SegmentLemmas.{goes-start}
use Rattle.np_forms.proofs.TextLemmas.{IsReadAssigned-start}
use Rattle.np_forms.proofs.fronts.write_letters.Goals as goal

pub returns-clause-goes : goal.returns-clause-goes
returns-clause-goes g c = goes-start _ _ _ _ c.utf8.text

pub returns-clause-read : goal.returns-clause-read
returns-clause-read g c = IsReadAssigned-start _ _ c.utf8.text
