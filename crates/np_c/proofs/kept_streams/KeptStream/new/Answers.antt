use Rattle.std.proofs.Common.{[], drop, sym, ap, subst, ◌∙◌}
use Rattle.std.specs.Arc.{arc_value}
use Rattle.np_forms.specs.ApartStreams.{ApartState}
use Rattle.np_forms.specs.Streams.{IsStreaming}
use Rattle.np_c.proofs.StreamLemmas.{at_front}
use Rattle.np_c.proofs.kept_streams.KeptStream.new.Goals as goal

pub returns : goal.returns
returns c =
    let v = arc_value c.args.shared.table in
    let apart = c.into_apart-apart.result in
    let begins = subst (λ w. IsStreaming w c.args.form [] [] c.new.result.pending) c.deref.ensures c.new.ensures.begins in
    let pending = ap (λ (a : ApartState). a.pending) c.into_apart-apart.ensures in
    let form = ap (λ (a : ApartState). a.form) c.into_apart-apart.ensures in
    at_front v c.args.form apart c.new-2.result.items (drop 0 c.new-3.result.items) c.new-2.ensures.items c.new-3.ensures.items (form ∙ c.new.ensures.form)
    (subst (IsStreaming v c.args.form [] []) (sym pending) begins)
