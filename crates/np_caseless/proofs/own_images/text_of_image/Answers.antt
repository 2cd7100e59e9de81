use Rattle.std.proofs.Common.{encode_utf8_all, ap, sym, ◌∙◌, arith}
use Rattle.std.proofs.lemmas.List.{take_all}
use Rattle.std.proofs.lemmas.Str.{chars_from_encodes, IsUtf8-string_bytes}
use Rattle.np_code_points.proofs.TextLemmas.{encoded_more}
use Rattle.np_caseless.proofs.own_images.text_of_image.Goals as goal

pub loop-code-preserved : goal.loop-code-preserved
loop-code-preserved c =
    c.in_ok-push.ensures.bytes
    ∙ encoded_more c.args.image.now _ c.loop-code.code-index c.code-item.result c.loop-code-test.true c.code-item.is c.loop-code.invariant

pub returns : goal.returns
returns c =
    sym (chars_from_encodes c.args.image.now _ (IsUtf8-string_bytes c.loop-code.text)
    (sym (c.loop-code.invariant ∙ ap encode_utf8_all (take_all c.loop-code.code-index c.args.image.now (omega arith)))))
