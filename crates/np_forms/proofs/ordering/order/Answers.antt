use Rattle.std.proofs.Common.{◌≤◌, ◌++◌, drop, length, sym, ap, ◌∙◌, append-nil, arith}
use Rattle.np_forms.proofs.Words.{take_all, drop_all, class_of, canonical_order, with_classes}
use Rattle.np_forms.proofs.OrderLemmas.{same_length, canonical_order-nil, canonical_order-ordered}
use Rattle.np_forms.proofs.ordering.order.Goals as goal

pub returns-then-is_in_order : goal.returns-then-is_in_order
returns-then-is_in_order c = λ v cs is. is ∙ ap (with_classes v) (sym (canonical_order-ordered (class_of v) cs (c.is_in_order.ensures c.if-is_in_order.true v cs is)))

pub runs-preserved : goal.runs-preserved
runs-preserved c = λ v cs is.
    let old = c.runs.invariant v cs is in
    let new = c.in_ok-at.ensures.ordered v old.new old.is in
    record { new = new.new; is = new.is; same = old.same ∙ new.same }

pub returns : goal.returns
returns c = λ v cs is.
    let ccc = class_of v in
    let all = c.runs.invariant v cs is in
    let at = c.runs.at in
    let end : length all.new ≤ at = omega (arith, c.runs-test.false, same_length v c.runs.list all.new all.is) in
    all.is
    ∙ ap (with_classes v)
    (sym (all.same ∙ ap (λ l. l ++ canonical_order ccc (drop at all.new)) (take_all at all.new end)
    ∙ ap (λ l. all.new ++ canonical_order ccc l) (drop_all at all.new end) ∙ ap (λ l. all.new ++ l) (canonical_order-nil ccc) ∙ append-nil all.new))
