use Rattle.std.proofs.Common.{◌≤◌, chars, drop, length, ap₂, subst, arith, ◌∙◌}
use Rattle.std.proofs.lemmas.Result.{on_ok_weaker}
use Rattle.std.specs.Arc.{arc_value}
use Rattle.np_c.specs.Streams.{StreamView}
use Rattle.np_c.specs.inside.Streams.{FeedsText}
use Rattle.np_c.proofs.StreamLemmas.{feeds_text, view, whole_of}
use Rattle.np_c.proofs.kept_streams.KeptStream.feed_text.Goals as goal

pub returns-clause-ok : goal.returns-clause-ok
returns-clause-ok c =
    let own = c.self.inside in
    let v = arc_value own.shared.table in
    let after = c.into_apart.result in
    let made = c.feed_text-fed.new.out.items in
    let within : own.taken ≤ length own.ready.items = omega (arith, c.self.invariant.1, own.ready.ok.0) in
    on_ok_weaker c.feed_text-fed.result
    (λ wrote.
    subst (λ (s : StreamView). FeedsText s (view v after own.cut.items own.place (drop own.taken made) own.first own.is_finished) (chars c.args.text.now)) (c.self.view_is ∙ c.let_go.ensures)
    (feeds_text v own.apart after c.of_apart-stream.result c.feed_text-fed.new.self own.ready.items made own.taken (c.of_apart-stream.ensures ∙ ap₂ whole_of c.deref.ensures c.replace-apart.ensures.value)
    c.into_apart.ensures within own.cut.items own.place own.first own.is_finished (chars c.args.text.now) wrote))
    c.feed_text-fed.ensures.ok
