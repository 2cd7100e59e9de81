use Rattle.std.proofs.Common.{◌≡◌, ◌++◌, [], false, length, sym, ap, subst, eqb-true, arith, ◌∙◌}
use Rattle.std.proofs.lemmas.List.{nil_from_length}
use Rattle.np_c.specs.Streams.{StreamView}
use Rattle.np_c.specs.inside.Streams.{FeedsChunk}
use Rattle.np_c.proofs.StreamLemmas.{feed_answer}
use Rattle.np_c.proofs.kept_streams.KeptStream.feed.Goals as goal

pub returns-then-is_empty : goal.returns-then-is_empty
returns-then-is_empty c =
    let old = c.args.self.now in
    let own = c.self.inside.cut in
    let none : length own.items ≡ 0 = let z = eqb-true _ 0 (sym c.is_empty.ensures ∙ c.if-is_empty.true) in omega (arith, z, own.ok.0) in
    let cut : old.cut ≡ [] = ap (λ (s : StreamView). s.cut) (sym c.self.view_is) ∙ nil_from_length own.items none in
    let unfinished : old.is_finished ≡ false = ap (λ (s : StreamView). s.is_finished) (sym c.self.view_is) ∙ c.if-self.false in
    feed_answer old c.feed_chunk.new.self c.args.piece.now c.feed_chunk.result unfinished
    (subst (λ l. FeedsChunk old c.feed_chunk.new.self (l ++ c.args.piece.now) c.feed_chunk.result) (sym cut) c.feed_chunk.ensures)

pub returns-in-Ok : goal.returns-in-Ok
returns-in-Ok c =
    let old = c.args.self.now in
    let unfinished : old.is_finished ≡ false = ap (λ (s : StreamView). s.is_finished) (sym c.self.view_is) ∙ c.if-self.false in
    let cut = c.deref.ensures.value ∙ ap (λ (s : StreamView). s.cut) c.self.view_is in
    let chunk : c.deref-in-Ok.result.now ≡ old.cut ++ c.args.piece.now = c.deref-in-Ok.ensures.value ∙ c.in-Ok.ensures ∙ ap (λ l. l ++ c.args.piece.now) cut in
    feed_answer old c.feed_chunk-in-Ok.new.self c.args.piece.now c.feed_chunk-in-Ok.result unfinished
    (subst (λ l. FeedsChunk old c.feed_chunk-in-Ok.new.self l c.feed_chunk-in-Ok.result) chunk c.feed_chunk-in-Ok.ensures)
