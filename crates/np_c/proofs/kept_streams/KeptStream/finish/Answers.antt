use Rattle.std.proofs.Common.{◌≡◌, ◌≢◌, [], ℕ, Option, false, true, drop, length, inl, inr, refl, sym, ap, ap₂, eqb-true, arith, ◌∙◌}
use Rattle.std.proofs.lemmas.Bool.{eqb-false}
use Rattle.std.proofs.lemmas.List.{nil_from_length}
use Rattle.std.specs.Arc.{arc_value}
use Rattle.np_c.specs.Streams.{StreamView, finish_answer}
use Rattle.np_c.specs.declared.answers.Answer.{Answer}
use Rattle.np_c.specs.declared.first_unassigned.FirstUnassigned.{FirstUnassigned}
use Rattle.np_c.proofs.StreamLemmas.{cut_short, has_ended, is_whole, view}
use Rattle.np_c.proofs.kept_streams.KeptStream.finish.Goals as goal

pub returns-then-not-is_empty : goal.returns-then-not-is_empty
returns-then-not-is_empty c =
    let old = c.args.self.now in
    let own = c.self.inside.cut in
    let unfinished : old.is_finished ≡ false = ap (λ (s : StreamView). s.is_finished) (sym c.self.view_is) ∙ c.if-self.false in
    let some : old.cut ≢ [] = λ none.
    let nothing = ap length (ap (λ (s : StreamView). s.cut) c.self.view_is ∙ none) in
    eqb-false _ 0 (sym c.is_empty.ensures ∙ c.if-not-is_empty.true) (omega (arith, nothing, own.ok.0)) in
    let answer = ap₂ (λ (a : Answer) (p : ℕ). record a { place = p }) c.of-then-not-is_empty.ensures (ap (λ (s : StreamView). s.place) c.self.view_is) in
    inr (unfinished, inr (inl (cut_short old old _ answer refl some)))

pub returns : goal.returns
returns c =
    let old = c.args.self.now in
    let mid = c.end_text.new.self in
    let own = c.self.inside.cut in
    let end = c.self-2.inside in
    let t = view (arc_value end.shared.table) end.apart end.cut.items end.place (drop end.taken end.ready.items) end.first true in
    let unfinished : old.is_finished ≡ false = ap (λ (s : StreamView). s.is_finished) (sym c.self.view_is) ∙ c.if-self.false in
    let none : length own.items ≡ 0 = let z = eqb-true _ 0 (sym c.is_empty.ensures ∙ c.if-not-is_empty.false) in omega (arith, z, own.ok.0) in
    let cut : old.cut ≡ [] = ap (λ (s : StreamView). s.cut) (sym c.self.view_is) ∙ nil_from_length own.items none in
    let e = c.in-Ok.ensures.ok in
    let is : t ≡ record mid { is_finished = true } = ap (λ (m : StreamView). record m { is_finished = true }) c.self-2.view_is in
    let first = ap (λ (m : StreamView). m.first) c.self-2.view_is ∙ ap (λ (m : StreamView). m.first) e.state in
    inr (
      unfinished,
      inl (record {
        answer = c.ending.ensures ∙ ap (λ (o : Option FirstUnassigned). finish_answer o (length t.ready)) first;
        version = ap (λ (m : StreamView). m.version) c.self-2.view_is ∙ ap (λ (m : StreamView). m.version) e.state;
        form = ap (λ (m : StreamView). m.form) c.self-2.view_is ∙ ap (λ (m : StreamView). m.form) e.state;
        ends = λ fed taken came. has_ended old mid t cut e is fed taken came;
        whole = λ fed taken came. is_whole old mid t cut e is fed taken came;
      }),
    )
