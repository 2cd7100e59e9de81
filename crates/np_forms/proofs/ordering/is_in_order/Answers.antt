use Rattle.std.proofs.Common.{◌≡◌, ◌<◌, ◌+◌, ◌⊎◌, ◌≤◌, ◌++◌, ◌∷◌, [], get_or, take, length, sym, ap, subst, ◌∙◌, arith, append_assoc, append-nil}
use Rattle.np_forms.proofs.Words.{take_all, take_more, Rises, class_of, CodeAndClass}
use Rattle.np_forms.proofs.OrderLemmas.{at_place, same_length}
use Rattle.np_forms.proofs.SegmentLemmas.{is_ordered-rises}
use Rattle.np_forms.proofs.ordering.is_in_order.Goals as goal

pub loop-c-preserved : goal.loop-c-preserved
loop-c-preserved c = λ v cs later is h.
    let i = c.loop-c.c-index in
    let d = get_or cs i 0 in
    let class : c.class-class.result ≡ class_of v d = c.class-class.ensures ∙ ap (λ (y : CodeAndClass). y.class) c.c-item.is ∙ ap (λ (y : CodeAndClass). y.class) (at_place v _ cs is i c.c-item.result c.loop-c-test.true) in
    let inside : i < length cs = omega (arith, c.loop-c-test.true, same_length v c.args.list.now cs is) in
    let longer : take (i + 1) cs ++ later ≡ take i cs ++ d ∷ later = ap (λ l. l ++ later) (take_more cs i 0 inside) ∙ append_assoc (take i cs) (d ∷ []) later in
    let up = subst (λ k. (k ≡ 0) ⊎ (c.loop-c.last ≤ k)) class (c.may_follow.ensures c.if-not-may_follow.false) in
    subst (Rises (class_of v) 0) (sym longer) (c.loop-c.invariant v cs (d ∷ later) is (up, subst (λ k. Rises (class_of v) k later) class h))

pub returns : goal.returns
returns c = λ _ v cs is.
    let whole = append-nil (take c.loop-c.c-index cs) ∙ take_all c.loop-c.c-index cs (omega (arith, c.loop-c-test.false, same_length v c.args.list.now cs is)) in
    is_ordered-rises (class_of v) 0 cs (subst (Rises (class_of v) 0) whole (c.loop-c.invariant v cs [] is tt))
