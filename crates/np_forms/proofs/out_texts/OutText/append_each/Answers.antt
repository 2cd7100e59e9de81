use Rattle.std.proofs.Common.{◌≡◌, ◌++◌, ◌+◌, ◌∷◌, [], encode_utf8, encode_utf8_all, take, sym, ap, ◌∙◌, append_assoc, append-nil}
use Rattle.np_forms.proofs.Words.{encodes-append, codes_of}
use Rattle.np_forms.proofs.OrderLemmas.{codes_next}
use Rattle.np_forms.proofs.out_texts.OutText.append_each.Goals as goal

pub loop-c-preserved : goal.loop-c-preserved
loop-c-preserved c =
    let base = c.args.self.now in
    let i = c.loop-c.c-index in
    let x = c.c-item.result in
    let before = codes_of (take i _) in
    let grown : encode_utf8_all before ++ encode_utf8 c.code.result ≡ encode_utf8_all (codes_of (take (i + 1) _)) =
    ap (λ d. encode_utf8_all before ++ encode_utf8 d) c.code.ensures ∙ ap (λ l. encode_utf8_all before ++ l) (sym (append-nil (encode_utf8 x.code)))
    ∙ sym (encodes-append before (x.code ∷ [])) ∙ ap encode_utf8_all (sym (codes_next _ i x c.loop-c-test.true c.c-item.is)) in
    c.in_ok-append_char.ensures ∙ ap (λ l. l ++ encode_utf8 c.code.result) c.loop-c.invariant ∙ append_assoc base (encode_utf8_all before) (encode_utf8 c.code.result) ∙ ap (λ l. base ++ l) grown
