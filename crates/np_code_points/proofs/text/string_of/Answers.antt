use Rattle.std.proofs.Common.{encode_utf8_all, ap, sym, ◌∙◌, arith}
use Rattle.std.proofs.lemmas.List.{take_all}
use Rattle.std.proofs.lemmas.Str.{chars_from_encodes, IsUtf8-string_bytes}
use Rattle.np_code_points.proofs.TextLemmas.{encoded_more}
use Rattle.np_code_points.proofs.text.string_of.Goals as goal

pub loop-c-preserved : goal.loop-c-preserved
loop-c-preserved c =
    c.in_ok-push.ensures.bytes
    ∙ encoded_more c.args.chars.now _ c.loop-c.c-index c.c-item.result c.loop-c-test.true c.c-item.is c.loop-c.invariant

pub returns-clause-bytes : goal.returns-clause-bytes
returns-clause-bytes c =
    c.loop-c.invariant ∙ ap encode_utf8_all (take_all c.loop-c.c-index c.args.chars.now (omega arith))

pub returns-clause-same : goal.returns-clause-same
returns-clause-same c =
    sym (chars_from_encodes c.args.chars.now _ (IsUtf8-string_bytes c.loop-c.text)
    (sym (c.loop-c.invariant ∙ ap encode_utf8_all (take_all c.loop-c.c-index c.args.chars.now (omega arith)))))
