use Rattle.std.proofs.Common.{◌≡◌, ◌<◌, ◌≤◌, ◌++◌, ◌∷◌, [], true, sym, ap, subst, ◌∙◌, arith}
use Rattle.np_forms.proofs.Words.{class_of, composite, CodeAndClass, codes_of, IsHeld, ended, canonical_order}
use Rattle.np_forms.proofs.OrderLemmas.{codes_more}
use Rattle.np_forms.proofs.HeldLemmas.{Advances-kept, held_non_starter, held_joins, held_parts}
use Rattle.np_forms.proofs.held.push.Goals as goal

pub returns-then-class-ne0-clause-ok : goal.returns-then-class-ne0-clause-ok
returns-then-class-ne0-clause-ok g c =
    let v = g.T.NormTable.model c.args.table.now in
    let e = c.args.composes in
    let d = c.args.d in
    let items = c.args.held.now.pending.items in
    let non_starter : 0 < class_of v d.code = omega (arith, (ap (λ (y : CodeAndClass). y.class) c.requires.class), c.class.ensures, c.if-class-ne0.true) in
    let grown = ap codes_of c.in_ok-push.ensures.items ∙ codes_more items d in
    Advances-kept v c.requires.sound e (d.code ∷ []) c.args.held.now.ready.items (codes_of items) _
    (λ ds out h. subst (IsHeld v e (ds ++ d.code ∷ []) out) (sym grown) (held_non_starter v c.requires.sound e ds out (codes_of items) d.code non_starter h))

pub returns-in-Some-clause-ok : goal.returns-in-Some-clause-ok
returns-in-Some-clause-ok g c =
    let v = g.T.NormTable.model c.args.table.now in
    let e = c.args.composes in
    let pending = codes_of c.args.held.now.pending.items in
    let d = c.args.d in
    let p = c.in-Some.p in
    let low : class_of v d.code ≤ 0 = omega (arith, (ap (λ (y : CodeAndClass). y.class) c.requires.class), c.class.ensures, c.if-class-ne0.false) in
    let found = c.in-Some.ensures.some in
    let on : e ≡ true = found.0 in
    let one = sym (ap codes_of c.deref.ensures.value) ∙ found.1.1 in
    let is : ended v true (canonical_order (class_of v) pending) ≡ found.1.0 ∷ [] =
    ap (λ b. ended v b (canonical_order (class_of v) pending)) (sym on) ∙ sym (c.in_ok-order_and_compose.ensures pending c.requires.classed) ∙ one in
    let pairs = ap (composite v found.1.0) (sym c.code.ensures) ∙ found.1.2 in
    let items = c.in_ok-push-2.ensures.items ∙ ap (λ l. l ++ c.with_class.result ∷ []) c.clear.ensures.items in
    let left = ap codes_of items ∙ ap (λ (y : CodeAndClass). y.code ∷ []) c.with_class.ensures in
    Advances-kept v c.requires.sound e (d.code ∷ []) c.args.held.now.ready.items pending _
    (λ ds out h.
    let joins = held_joins v c.requires.sound ds out pending found.1.0 d.code p low (subst (λ b. IsHeld v b ds out pending) on h) is pairs in
    subst (IsHeld v e (ds ++ d.code ∷ []) out) (sym left) (subst (λ b. IsHeld v b (ds ++ d.code ∷ []) out (p ∷ [])) (sym on) joins))

pub returns-clause-ok : goal.returns-clause-ok
returns-clause-ok g c =
    let v = g.T.NormTable.model c.args.table.now in
    let pending = codes_of c.args.held.now.pending.items in
    let low : class_of v c.args.d.code ≤ 0 = omega (arith, (ap (λ (y : CodeAndClass). y.class) c.requires.class), c.class.ensures, c.if-class-ne0.false) in
    let settled = c.in_ok-order_and_compose.ensures pending c.requires.classed in
    let value = ended v _ (canonical_order (class_of v) pending) in
    let left = ap codes_of (c.in_ok-push-3.ensures.items ∙ ap (λ l. l ++ c.args.d ∷ []) c.clear-2.ensures.items) in
    record {
      more = value;
      ready_is = c.in_ok-push_codes.ensures.ok ∙ ap (λ l. c.args.held.now.ready.items ++ l) (ap codes_of c.deref-2.ensures.value ∙ settled);
      carries = λ ds out h.
          subst (IsHeld v _ (ds ++ c.args.d.code ∷ []) (out ++ value)) (sym left)
          (held_parts v c.requires.sound _ ds out pending c.args.d.code low h
          (λ head on is.
          ap (composite v head) (sym c.code.ensures)
          ∙ c.in_default.ensures.none head on (ap codes_of c.deref.ensures.value ∙ settled ∙ ap (λ b. ended v b (canonical_order (class_of v) pending)) on ∙ is)));
    }
