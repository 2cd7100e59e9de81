use Rattle.std.proofs.Common.{◌++◌, encode_utf8, encode_utf8_all, take, refl, ap, ◌∙◌, append_assoc}
use Rattle.np_code_points.proofs.TextLemmas.{encoded_more}
use Rattle.np_forms.proofs.out_texts.OutText.append_chars.Goals as goal

pub loop-c-preserved : goal.loop-c-preserved
loop-c-preserved c =
    let base = c.args.self.now in
    let x = c.c-item.result in
    c.in_ok-append_char.ensures ∙ ap (λ l. l ++ encode_utf8 x) c.loop-c.invariant ∙ append_assoc base (encode_utf8_all (take _ _)) (encode_utf8 x)
    ∙ ap (λ l. base ++ l) (encoded_more _ (encode_utf8_all (take _ _)) _ x c.loop-c-test.true c.c-item.is refl)
