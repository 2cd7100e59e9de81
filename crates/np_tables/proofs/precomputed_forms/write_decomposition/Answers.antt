use Rattle.std.proofs.lemmas.Grind.{common_steps}
use Rattle.std.proofs.Common.{◌++◌, encode_utf8, string_bytes, refl, ap, ◌∙◌, append_assoc, arith}
use Rattle.np_code_points.proofs.TextLemmas.{encoded_more}
use Rattle.np_tables.proofs.precomputed_forms.write_decomposition.Goals as goal

pub loop-c-preserved : goal.loop-c-preserved
loop-c-preserved c =
    let before = string_bytes c.args.text.now in
    c.in_ok-push.ensures.bytes ∙ ap (λ l. l ++ encode_utf8 c.c-item.result) c.loop-c.invariant ∙ append_assoc before _ (encode_utf8 c.c-item.result)
    ∙ ap (λ l. before ++ l) (encoded_more c.args.lent.now _ c.loop-c.c-index c.c-item.result c.loop-c-test.true c.c-item.is refl)

pub returns : goal.returns
returns c = grind (arith, common_steps)
