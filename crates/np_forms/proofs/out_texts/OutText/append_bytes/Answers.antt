use Rattle.np_forms.proofs.OutTextLemmas.{utf8_grown, utf8_same}
use Rattle.np_forms.proofs.out_texts.OutText.append_bytes.Goals as goal

pub invariant_of-self-2 : goal.invariant_of-self-2
invariant_of-self-2 c = utf8_grown _ _ c.args.bytes.now c.write_run-self-inside.ensures.bytes (utf8_same _ _ c.reserve.ensures.same c.self.invariant) c.requires
