use Rattle.std.proofs.Common.{◌≡◌, length, sym, ap, ◌∙◌, arith}
use Rattle.np_forms.proofs.Words.{take_at, length-map, class_of, canonical_order, codes_of, with_class, with_classes, ended}
use Rattle.np_forms.proofs.OrderLemmas.{codes-with_classes, same_length, is_ordered-canonical_order, length-canonical_order}
use Rattle.np_forms.proofs.held.order_and_compose.Goals as goal

pub returns-then-composes : goal.returns-then-composes
returns-then-composes g c = λ cs is.
    let v = g.T.NormTable.model c.args.table.now in
    let ccc = class_of v in
    let old = c.args.list.now in
    let sorted = c.order.new.list in
    let order : sorted ≡ with_classes v (canonical_order ccc cs) = c.in_ok-order.ensures v cs (c.deref_mut.ensures.value ∙ is) in
    let long : length sorted ≡ old.len = omega (arith, ap length order, length-map (canonical_order ccc cs) (with_class v), length-canonical_order ccc cs, same_length v old.items cs is, old.ok.0) in
    c.compose.ensures (canonical_order ccc cs) (ap (λ l. l.items) c.replace-ordered.ensures.value ∙ take_at sorted _ old.len long ∙ order) (is_ordered-canonical_order ccc cs)
    ∙ ap (λ b. ended v b (canonical_order ccc cs)) (sym c.if-composes.true)

pub returns-else-composes : goal.returns-else-composes
returns-else-composes g c = λ cs is.
    let v = g.T.NormTable.model c.args.table.now in
    let ccc = class_of v in
    let old = c.args.list.now in
    let sorted = c.order.new.list in
    let order : sorted ≡ with_classes v (canonical_order ccc cs) = c.in_ok-order.ensures v cs (c.deref_mut.ensures.value ∙ is) in
    let long : length sorted ≡ old.len = omega (arith, ap length order, length-map (canonical_order ccc cs) (with_class v), length-canonical_order ccc cs, same_length v old.items cs is, old.ok.0) in
    ap codes_of (take_at sorted _ old.len long ∙ order) ∙ codes-with_classes v (canonical_order ccc cs) ∙ ap (λ b. ended v b (canonical_order ccc cs)) (sym c.if-composes.false)
