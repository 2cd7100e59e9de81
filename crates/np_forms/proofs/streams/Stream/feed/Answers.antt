use Rattle.std.proofs.Common.{◌≡◌, ◌<◌, ◌++◌, ◌∷◌, [], true, refl, sym, ap, ◌∙◌, arith}
use Rattle.np_forms.proofs.Words.{and_from, not_from_false, list_all, class_of, full_of, is_non_starter, CodeAndClass, codes_of, with_classes}
use Rattle.np_forms.proofs.OrderLemmas.{AreClassed-append, AreClassed-with_classes, codes-append, codes-with_classes, codes_more}
use Rattle.np_forms.proofs.ComposeLemmas.{not_starter_from}
use Rattle.np_forms.proofs.HeldLemmas.{TakesIn-advances, TakesIn-non_starters}
use Rattle.np_forms.proofs.streams.Stream.feed.Goals as goal

pub returns-then-is_own-clause-ok : goal.returns-then-is_own-clause-ok
returns-then-is_own-clause-ok g c =
    let v = g.T.NormTable.model c.self.inside.table.now in
    let d = c.args.c in
    let items = c.self.inside.held.pending.items in
    let some : 0 < class_of v d = omega (arith, c.class-class.ensures, c.if-class-ne0.true) in
    let all : list_all (is_non_starter v) (d ∷ []) ≡ true = and_from _ _ (not_from_false _ (not_starter_from (class_of v) d some)) refl in
    let grown = ap codes_of c.in_ok-push.ensures.items ∙ codes_more items c.new.result ∙ ap (λ (y : CodeAndClass). codes_of items ++ y.code ∷ []) c.new.ensures in
    rw (← c.self.view_is) (TakesIn-non_starters v c.meets_conditions.ensures c.self.inside.form d c.compat-compat.ensures (sym (c.is_own.ensures c.if-is_own.true)) all (sym grown))

pub invariant_of-self-then-are_non_starters : goal.invariant_of-self-then-are_non_starters
invariant_of-self-then-are_non_starters g c =
    let v = g.T.NormTable.model c.self.inside.table.now in
    rw (c.in_ok-extend_from_slice.ensures.items, c.deref-then-are_non_starters.ensures.value, c.in_ok-append.ensures, c.clear.ensures.items)
    (AreClassed-append v _ _ c.self.invariant (AreClassed-with_classes v (full_of v c.compat-compat.result c.args.c)))

pub returns-then-are_non_starters-clause-ok : goal.returns-then-are_non_starters-clause-ok
returns-then-are_non_starters-clause-ok g c =
    let v = g.T.NormTable.model c.self.inside.table.now in
    let full = full_of v c.compat-compat.result c.args.c in
    let items = c.self.inside.held.pending.items in
    let parts = c.in_ok-append.ensures ∙ ap (λ l. l ++ with_classes v full) c.clear.ensures.items in
    let all = c.are_non_starters.ensures v full (c.deref.ensures.value ∙ parts) c.if-are_non_starters.true in
    let grown =
    ap codes_of c.in_ok-extend_from_slice.ensures.items ∙ codes-append items _
    ∙ ap (λ l. codes_of items ++ l) (ap codes_of (c.deref-then-are_non_starters.ensures.value ∙ parts) ∙ codes-with_classes v full) in
    rw (← c.self.view_is) (TakesIn-non_starters v c.meets_conditions.ensures c.self.inside.form c.args.c c.compat-compat.ensures refl all (sym grown))

pub push_all-requires-clause-parts : goal.push_all-requires-clause-parts
push_all-requires-clause-parts g c =
    let v = g.T.NormTable.model c.self.inside.table.now in
    rw (c.deref-3.ensures.value, c.in_ok-append.ensures, c.clear.ensures.items) (AreClassed-with_classes v (full_of v c.compat-compat.result c.args.c))

pub returns-in-Ok-clause-ok : goal.returns-in-Ok-clause-ok
returns-in-Ok-clause-ok g c =
    let v = g.T.NormTable.model c.self.inside.table.now in
    let full = full_of v c.compat-compat.result c.args.c in
    let of_c = ap codes_of (c.deref-3.ensures.value ∙ c.in_ok-append.ensures ∙ ap (λ l. l ++ with_classes v full) c.clear.ensures.items) ∙ codes-with_classes v full in
    rw (← c.self.view_is) (TakesIn-advances _ c.meets_conditions.ensures c.self.inside.form c.args.c c.compat-compat.ensures c.composes-composes.ensures of_c c.in-Ok.ensures.ok)
