use Rattle.std.proofs.Common.{◌∷◌, [], ◌∙◌, sym, subst}
use Rattle.np_tables.proofs.Words.{lent_entry, IsFullDecomposition, AreHints}
use Rattle.np_tables.proofs.PageLemmas.{lent-decomposes, not_lent-final}
use Rattle.np_tables.proofs.page_bits.kind_hints.Goals as goal

pub returns-then-is_lent : goal.returns-then-is_lent
returns-then-is_lent c =
    let v = c.args.known.now.version.now in
    let compat = c.args.compat in
    let lent = c.lent-list.result.now in
    let code = c.mapped_code.ensures in
    let full = lent-decomposes v (lent_entry c.args.row) compat lent c.meets_conditions.ensures c.requires.first (sym c.is_lent.ensures.value ∙ c.if-is_lent.true) (c.lent-list.ensures ∙ c.requires.slot.lent compat) in
    subst (λ d. AreHints v compat d c.list_hints.result) code (c.list_hints.ensures compat (subst (λ d. IsFullDecomposition v compat (d ∷ []) lent) (sym code) full))

pub returns-else-is_lent : goal.returns-else-is_lent
returns-else-is_lent c =
    c.requires.own (not_lent-final c.args.known.now.version.now (lent_entry c.args.row) c.args.compat c.requires.mapped c.requires.first (sym c.is_lent.ensures.value ∙ c.if-is_lent.false))
