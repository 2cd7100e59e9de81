use Rattle.std.proofs.Common.{◌≡◌, ◌++◌, ◌+◌, ◌∷◌, [], take, encode_utf8, encode_utf8_all, IsUtf8, sym, subst, ◌∙◌, ap, append_assoc, append-nil, arith}
use Rattle.np_forms.proofs.Words.{encodes-append, IsUtf8-append, codes_of}
use Rattle.np_forms.proofs.OrderLemmas.{codes_next}
use Rattle.np_forms.proofs.out_texts.put_codes.Goals as goal

pub loop-c-preserved : goal.loop-c-preserved
loop-c-preserved c =
    let list = c.args.list.now in
    let i = c.loop-c.c-index in
    let x = c.c-item.result in
    let before = codes_of (take i list) in
    let front = take c.args.at c.args.buffer.now in
    let more : codes_of (take (i + 1) list) ≡ before ++ x.code ∷ [] = codes_next list i x c.loop-c-test.true c.c-item.is in
    let grown : encode_utf8_all before ++ encode_utf8 c.code.result ≡ encode_utf8_all (codes_of (take (i + 1) list)) =
    ap (λ d. encode_utf8_all before ++ encode_utf8 d) c.code.ensures ∙ ap (λ l. encode_utf8_all before ++ l) (sym (append-nil (encode_utf8 x.code))) ∙ sym (encodes-append before (x.code ∷ [])) ∙ ap encode_utf8_all (sym more) in
    record {
      bytes = c.put_char-end.ensures.bytes ∙ ap (λ l. l ++ encode_utf8 c.code.result) c.loop-c.invariant.bytes ∙ append_assoc front (encode_utf8_all before) (encode_utf8 c.code.result) ∙ ap (λ l. front ++ l) grown;
      utf8 = subst IsUtf8 grown (IsUtf8-append (encode_utf8_all before) (encode_utf8 c.code.result) c.loop-c.invariant.utf8 c.put_char-end.ensures.utf8);
      place = omega (arith, c.put_char-end.ensures.place, c.loop-c.invariant.place);
      same = c.put_char-end.ensures.length ∙ c.loop-c.invariant.same;
    }
