use Rattle.std.proofs.Common.{◌≡◌, ◌<◌, ◌≤◌, true, get_or, take, sym, ap, ◌∙◌, arith}
use Rattle.np_forms.proofs.Words.{both_ways, take_more, class_of, CodeAndClass}
use Rattle.np_forms.proofs.OrderLemmas.{at_place, same_length}
use Rattle.np_forms.proofs.SortLemmas.{IsRunTo-start, IsRunTo-next}
use Rattle.np_forms.proofs.ordering.non_starters_at_front.Goals as goal
use Rattle.np_forms.proofs.ordering.non_starters_at_front.Goals.{then-class-last, else-class-last}

pub loop-i-init : goal.loop-i-init
loop-i-init c = λ v cs is. IsRunTo-start v

pub loop-i-preserved : goal.loop-i-preserved
loop-i-preserved c = λ v cs is.
    let i = c.loop-i.i in
    let list = c.args.list.now in
    let d = get_or cs i 0 in
    let run = take i cs in
    let new = c.if-class-last.ordered in
    let class : c.class-class.result ≡ class_of v d = c.class-class.ensures ∙ ap (λ (y : CodeAndClass). y.class) c.index-list-i.is ∙ ap (λ (y : CodeAndClass). y.class) (at_place v list cs is i c.index-list-i.result c.loop-i-test.true) in
    let non_starter : 0 < class_of v d = omega (arith, class, c.if-class-eq0.false) in
    let stays : new ≡ true → (c.loop-i.ordered ≡ true) × (c.loop-i.last ≤ class_of v d) =
    elim c.if-class-last.branch [ then-class-last w ↦ λ h. absurd (both_ways _ w.ordered-is h) | else-class-last w ↦ λ h. (sym w.ordered-is ∙ h, omega (arith, w.if-class-last.false, class)) ] in
    let last : c.if-class-last.last ≡ class_of v d = elim c.if-class-last.branch [ then-class-last w ↦ w.last-is ∙ class | else-class-last w ↦ w.last-is ∙ class ] in
    rw (take_more cs i 0 (omega (arith, c.loop-i-test.true, same_length v list cs is)), last)
    (IsRunTo-next v run c.loop-i.last c.loop-i.ordered d new (c.loop-i.invariant v cs is) non_starter stays)
