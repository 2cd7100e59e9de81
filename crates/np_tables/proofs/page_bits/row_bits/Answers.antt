use Rattle.std.proofs.Common.{◌∙◌, sym, subst}
use Rattle.np_tables.proofs.Words.{lent_entry, AreHints}
use Rattle.np_tables.proofs.PageLemmas.{row-never_second, hints-own, class-found}
use Rattle.np_tables.proofs.page_bits.row_bits.Goals as goal

pub bare_bits-requires-clause-own : goal.bare_bits-requires-clause-own
bare_bits-requires-clause-own c = λ compat d found final.
    let v = c.args.known.now.version.now in
    let e = lent_entry c.row_in-row.result in
    let here = c.row_in-row.ensures.place in
    subst (AreHints v compat d) (sym c.own_hints-own.ensures)
    (hints-own v compat d c.row_in-row.result.class c.is_row_never_second.result final (class-found v d e found) (λ is. row-never_second v c.args.known.now.seconds.now c.args.at e d c.args.known.now.are_seconds here found (sym c.is_row_never_second.ensures ∙ is)))

pub mapped_bits-requires-clause-slot : goal.mapped_bits-requires-clause-slot
mapped_bits-requires-clause-slot c = c.requires.slot (lent_entry c.row_in-row.result) c.row_in-row.ensures.place

pub mapped_bits-requires-clause-own : goal.mapped_bits-requires-clause-own
mapped_bits-requires-clause-own c = λ compat final.
    let v = c.args.known.now.version.now in
    let e = lent_entry c.row_in-row.result in
    let here = c.row_in-row.ensures.place in
    let found = c.row_in-row.ensures.first in
    let d = c.row_in-row.result.first in
    subst (AreHints v compat d) (sym c.own_hints-own.ensures)
    (hints-own v compat d c.row_in-row.result.class c.is_row_never_second.result final (class-found v d e found) (λ is. row-never_second v c.args.known.now.seconds.now c.args.at e d c.args.known.now.are_seconds here found (sym c.is_row_never_second.ensures ∙ is)))
