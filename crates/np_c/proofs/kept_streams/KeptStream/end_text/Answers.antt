use Rattle.std.proofs.Common.{◌≤◌, drop, length, ap₂, subst, arith, ◌∙◌}
use Rattle.std.proofs.lemmas.Result.{on_ok_weaker}
use Rattle.std.specs.Arc.{arc_value}
use Rattle.np_c.specs.Streams.{StreamView}
use Rattle.np_c.specs.inside.Streams.{EndsText}
use Rattle.np_c.proofs.StreamLemmas.{ends_text, view, whole_of}
use Rattle.np_c.proofs.kept_streams.KeptStream.end_text.Goals as goal

pub returns-clause-ok : goal.returns-clause-ok
returns-clause-ok c =
    let own = c.self.inside in
    let v = arc_value own.shared.table in
    let after = c.into_apart.result in
    let made = c.finish_text-ended.new.out.items in
    let within : own.taken ≤ length own.ready.items = omega (arith, c.self.invariant.1, own.ready.ok.0) in
    on_ok_weaker c.finish_text-ended.result
    (λ broke.
    subst (λ (s : StreamView). EndsText s (view v after own.cut.items own.place (drop own.taken made) own.first own.is_finished)) (c.self.view_is ∙ c.let_go.ensures)
    (ends_text v own.apart after c.of_apart-stream.result c.finish_text-ended.new.self own.ready.items made own.taken (c.of_apart-stream.ensures ∙ ap₂ whole_of c.deref.ensures c.replace-apart.ensures.value)
    c.into_apart.ensures within own.cut.items own.place own.first own.is_finished broke))
    c.finish_text-ended.ensures.ok
