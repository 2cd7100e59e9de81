use Rattle.std.proofs.Common.{◌≡◌, ◌+◌, ◌++◌, ℕ, Bool, true, false, not, refl, take, drop, length, length-take, inl, ap, ap₂, subst, arith, ◌∙◌}
use Rattle.std.proofs.lemmas.List.{take_rest}
use Rattle.std.specs.Arc.{arc_value}
use Rattle.np_c.specs.Streams.{StreamView, HasRead}
use Rattle.np_c.specs.declared.answers.Answer.{Answer}
use Rattle.np_c.proofs.StreamLemmas.{reads_more, view}
use Rattle.np_c.proofs.kept_streams.KeptStream.feed_chunk.Goals as goal

yes_from : (b : Bool) → not b ≡ false → b ≡ true
yes_from true e = refl
yes_from false e = cc

pub returns : goal.returns
returns c =
    let old = c.args.self.now in
    let mid = c.feed_text.new.self in
    let n = c.utf8_prefix_of-prefix.result.text in
    let chunk = c.args.chunk.now in
    let text = c.from_utf8_unchecked-text.result.now in
    let first = c.first_with-first.result in
    let cut = c.in-Ok.cut.items in
    let fed = c.in-Ok-feed_text.ensures.ok in
    let begins = c.utf8_prefix_of-prefix.ensures.begins (yes_from _ c.if-not-prefix.false) in
    let front : text ≡ take n chunk = c.from_utf8_unchecked-text.ensures in
    let long : length text ≡ n = ap length front ∙ omega (arith, length-take n chunk, begins.prefix.within) in
    let place : c.in-Some.place ≡ old.place + length text = let at = ap (λ (m : StreamView). m.place) c.self.view_is in omega (arith, c.in-Some.ensures, long, at) in
    let own = c.self-2.inside in
    let t = view (arc_value own.shared.table) own.apart cut c.in-Some.place (drop own.taken own.ready.items) first own.is_finished in
    let is = ap (λ (m : StreamView). record m { cut = cut; place = c.in-Some.place; first = first }) c.self-2.view_is ∙ ap (λ p. record mid { cut = cut; place = p; first = first }) place in
    inl
    (record {
      n = n;
      answer = ap₂ (λ (a : Answer) (k : ℕ). record a { length = k }) c.of-2.ensures c.ready_len.ensures;
      version = ap (λ (m : StreamView). m.version) c.self-2.view_is ∙ ap (λ (m : StreamView). m.version) fed.state;
      form = ap (λ (m : StreamView). m.form) c.self-2.view_is ∙ ap (λ (m : StreamView). m.form) fed.state;
      unfinished = ap (λ (m : StreamView). m.is_finished) c.self-2.view_is ∙ ap (λ (m : StreamView). m.is_finished) fed.state ∙ c.requires;
      begins = begins;
      cut = c.in-Ok.ensures.items ∙ take_rest chunk n;
      reads = λ came taken h.
          subst (λ l. HasRead t (came ++ l) taken) front (reads_more old mid t came text taken first fed is c.from_utf8_unchecked-text.utf8 c.first_with-first.ensures h);
    })
