use Rattle.np_forms.proofs.SyllableTextLemmas.{syllable_text_answers}
use Rattle.std.proofs.Common.{arith}
use Rattle.np_forms.proofs.syllable_texts.push_syllable.Goals as goal

pub returns-else-trailing-eq0 : goal.returns-else-trailing-eq0
returns-else-trailing-eq0 c = grind (arith, syllable_text_answers)
