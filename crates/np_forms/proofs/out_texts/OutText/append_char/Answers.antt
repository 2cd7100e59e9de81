use Rattle.std.proofs.Common.{encode_utf8}
use Rattle.np_forms.proofs.OutTextLemmas.{utf8_grown, utf8_same}
use Rattle.np_forms.proofs.out_texts.OutText.append_char.Goals as goal

pub invariant_of-self-2 : goal.invariant_of-self-2
invariant_of-self-2 c =
    utf8_grown _ _ (encode_utf8 c.args.c) c.write_char-self-inside.ensures.bytes (utf8_same _ _ c.reserve.ensures.same c.self.invariant) c.write_char-self-inside.ensures.utf8
