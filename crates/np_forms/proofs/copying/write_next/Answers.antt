use Rattle.std.proofs.Common.{◌++◌, encode_utf8_all, ap, ◌∙◌}
use Rattle.np_forms.specs.inside.Classes.{codes_of}
use Rattle.np_forms.proofs.SegmentLemmas.{decomposed-made, goes-made}
use Rattle.np_forms.proofs.copying.write_next.Goals as goal

pub returns-clause-goes : goal.returns-clause-goes
returns-clause-goes g c =
    let made = decomposed-made _ c.meets_conditions.ensures _ _ _ c.decompose_first.new.list.items _ c.composes.result c.composes.ensures c.in_ok-later.ensures.decomposed c.in_ok-later.ensures.at c.in_ok-order_and_compose.ensures in
    goes-made _ _ _ _ _ c.args.out.now c.append_codes.new.self made (c.in_ok-append_codes.ensures ∙ ap (λ l. c.args.out.now ++ encode_utf8_all (codes_of l)) c.deref.ensures.value)
