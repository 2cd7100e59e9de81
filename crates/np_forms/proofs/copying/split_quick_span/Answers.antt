use Rattle.std.proofs.Common.{chars, sym, subst, ◌∙◌}
use Rattle.np_forms.proofs.Words.{IsAssigned, BeginsAtBoundary}
use Rattle.np_forms.proofs.CopyLemmas.{cut_boundary, own-boundary, own-front, IsCopied-cut, IsCopied-last}
use Rattle.np_forms.proofs.TextLemmas.{assigned-front}
use Rattle.np_forms.proofs.copying.split_quick_span.Goals as goal

pub split_at-requires : goal.split_at-requires
split_at-requires g c = cut_boundary (g.T.NormTable.model c.args.table.now) c.args.form c.args.text.now c.quick_span-span.result.count c.quick_span-span.ensures.quick_span

pub split_at-requires-2 : goal.split_at-requires-2
split_at-requires-2 g c =
    own-boundary (g.T.NormTable.model c.args.table.now) c.args.form c.args.text.now c.quick_span-span.result.count c.quick_span-span.ensures.quick_span
    c.split_at.result.0.now c.split_tail.result.0.now c.split_tail.result.1.now c.split_at.ensures.front c.utf8.text c.split_tail.ensures.front c.split_tail.ensures.back c.split_tail.ensures.parts

pub returns-then-span-clause-copied : goal.returns-then-span-clause-copied
returns-then-span-clause-copied g c =
    IsCopied-cut (g.T.NormTable.model c.args.table.now) c.meets_conditions.ensures c.args.form c.args.text.now c.quick_span-span.result.count c.quick_span-span.ensures.quick_span
    c.split_at.result.0.now c.split_at.result.1.now c.split_at.ensures.front c.split_at.ensures.back
    (subst (λ l. BeginsAtBoundary (g.T.NormTable.model c.args.table.now) c.args.form (chars l)) (sym c.split_at.ensures.back) (c.quick_span-span.ensures.boundary c.if-span.true))

pub returns-clause-copied : goal.returns-clause-copied
returns-clause-copied g c =
    IsCopied-last (g.T.NormTable.model c.args.table.now) c.args.form c.args.text.now c.quick_span-span.result.count c.quick_span-span.ensures.quick_span
    c.split_at.result.0.now c.split_tail.result.0.now c.split_tail.result.1.now c.split_at.ensures.front c.utf8.text c.split_tail.ensures.front c.split_tail.ensures.back c.split_tail.ensures.parts
    c.meets_conditions.ensures c.split_at-2.result.0.now c.split_at-2.result.1.now c.split_tail.ensures.cut c.split_tail.ensures.some c.split_at-2.ensures.front c.split_at-2.ensures.back

pub returns-then-span-clause-assigned : goal.returns-then-span-clause-assigned
returns-then-span-clause-assigned g c = λ on.
    subst (λ l. IsAssigned (g.T.NormTable.model c.args.table.now) (chars l)) (sym c.split_at.ensures.front) (c.quick_span-span.ensures.assigned on)

pub returns-clause-assigned : goal.returns-clause-assigned
returns-clause-assigned g c = λ on.
    let v = g.T.NormTable.model c.args.table.now in
    let is = c.split_at-2.ensures.front
    ∙ own-front v c.args.form c.args.text.now c.quick_span-span.result.count c.quick_span-span.ensures.quick_span _ _ _ c.split_at.ensures.front c.utf8.text c.split_tail.ensures.front c.split_tail.ensures.back c.split_tail.ensures.parts in
    subst (λ l. IsAssigned v (chars l)) (sym is)
    (assigned-front v _ _ _ c.split_tail.ensures.front c.split_tail.ensures.parts (subst (λ l. IsAssigned v (chars l)) (sym c.split_at.ensures.front) (c.quick_span-span.ensures.assigned on)))
