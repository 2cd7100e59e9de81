use Rattle.std.proofs.Common.{◌<◌, ◌+◌, take, set, subst, sym, ap, ◌∙◌, arith, length, inl, inr}
use Rattle.np_forms.proofs.Words.{length-take-le, CodeAndClass, codes_of, IsInPlace, pair_with_last}
use Rattle.np_forms.proofs.ComposerLemmas.{in_place_joins, in_place_stays}
use Rattle.np_forms.proofs.composing.take_in.Goals as goal
use Rattle.np_forms.proofs.composing.take_in.Goals.{then-class-eq0, else-class-eq0}

pub returns-in-Some-clause-composing : goal.returns-in-Some-clause-composing
returns-in-Some-clause-composing g c = λ whole a.
    let v = g.T.NormTable.model c.args.table.now in
    let old = c.args.composer.now in
    let x = c.index-next.result.now in
    let list = c.deref.result.now in
    let low : c.in-Some.q < old.kept = omega (arith, c.in-Some.ensures.in_range, length-take-le old.kept list (omega (arith, ap length c.deref.ensures.value, c.requires.kept, c.requires.place))) in
    in_place_joins v whole old.list.items old.kept c.args.at x old.starter old.last c.requires.kept (omega (arith, c.requires.place)) c.index-next.ensures a c.in-Some.q c.in-Some.p _ (ap (λ (y : CodeAndClass). y.code) c.new.ensures) low
    (λ class.
    ap (λ l. pair_with_last v (codes_of (take old.kept l)) old.starter old.last x.code) (sym c.deref.ensures.value)
    ∙ sym (c.pair_with_last-found.ensures.pair class) ∙ c.in-Some.is)

pub returns-clause-composing : goal.returns-clause-composing
returns-clause-composing g c = λ whole a.
    let v = g.T.NormTable.model c.args.table.now in
    let old = c.args.composer.now in
    let x = c.index-next.result.now in
    subst (IsInPlace v whole (c.args.at + 1) (set old.list.items old.kept x) (old.kept + 1) c.if-class-eq0.starter) (sym c.class-class.ensures)
    (in_place_stays v whole old.list.items old.kept c.args.at x old.starter old.last c.requires.kept (omega (arith, c.requires.place)) c.index-next.ensures a c.if-class-eq0.starter
    (elim c.if-class-eq0.branch [
      | then-class-eq0 w ↦ inl (sym c.class-class.ensures ∙ w.if-class-eq0.true, w.starter-is)
      | else-class-eq0 w ↦ inr (omega (arith, w.if-class-eq0.false, c.class-class.ensures), w.starter-is)
    ])
    (λ class.
    ap (λ l. pair_with_last v (codes_of (take old.kept l)) old.starter old.last x.code) (sym c.deref.ensures.value)
    ∙ sym (c.pair_with_last-found.ensures.pair class) ∙ c.in_default.is))
