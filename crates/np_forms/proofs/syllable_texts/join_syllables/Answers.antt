use Rattle.std.proofs.Common.{rules}
use Rattle.np_forms.proofs.SegmentLemmas.{goes-start}
use Rattle.np_forms.proofs.TextLemmas.{IsReadAssigned-start}
use Rattle.np_forms.proofs.syllable_texts.join_syllables.Goals as goal

pub returns-clause-goes : goal.returns-clause-goes
returns-clause-goes g c = goes-start _ _ _ _ c.utf8.text

pub returns-clause-read : goal.returns-clause-read
returns-clause-read g c = IsReadAssigned-start _ _ c.utf8.text

pub write_joined-requires-clause-leading_consonants : goal.write_joined-requires-clause-leading_consonants
write_joined-requires-clause-leading_consonants c κs = search rules
