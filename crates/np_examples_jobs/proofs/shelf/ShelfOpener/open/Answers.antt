use Rattle.std.proofs.Common.{Some, ap, refl, sym, ◌∙◌}
use Rattle.np_examples_jobs.proofs.ShelfLemmas.{found, none_left, passed}
use Rattle.np_examples_jobs.proofs.shelf.ShelfOpener.open.Goals as goal

pub loop-here-init : goal.loop-here-init
loop-here-init c = refl

pub loop-here-preserved : goal.loop-here-preserved
loop-here-preserved c =
    passed (λ f. f.0.now) (λ f. f.1.now) _ c.args.name.now c.args.self.now.files.now c.loop-here.here-index c.loop-here-test.true (sym c.eq.ensures ∙ c.if-eq.false) ∙ c.loop-here.invariant

pub returns-then-eq-clause-file : goal.returns-then-eq-clause-file
returns-then-eq-clause-file c =
    let at = found (λ f. f.0.now) (λ f. f.1.now) _ c.args.name.now c.args.self.now.files.now c.loop-here.here-index c.loop-here-test.true (sym c.eq.ensures ∙ c.if-eq.true) in (
      refl,
      sym c.loop-here.invariant ∙ at ∙ ap (λ text. Some text) (sym (c.new.ensures.bytes ∙ c.as_bytes.ensures.value)),
    )

pub returns-clause-unopened : goal.returns-clause-unopened
returns-clause-unopened c =
    sym c.loop-here.invariant ∙ none_left (λ f. f.0.now) (λ f. f.1.now) c.args.name.now c.args.self.now.files.now c.loop-here.here-index c.loop-here-test.false
