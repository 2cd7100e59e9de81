use Rattle.np_forms.proofs.OutTextLemmas.{utf8_grown}
use Rattle.np_forms.proofs.out_texts.OutText.append_first.Goals as goal

pub invariant_of-self : goal.invariant_of-self
invariant_of-self c = utf8_grown _ _ _ c.write_lanes-self-inside.ensures.bytes c.self.invariant c.requires.utf8
