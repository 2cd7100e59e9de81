use Rattle.std.proofs.Common.{sym, arith}
use Rattle.np_versions.proofs.Words.{leb-true, lent_entry}
use Rattle.np_versions.proofs.RowLemmas.{at-row, goes_on-within}
use Rattle.np_versions.proofs.row_pages.goes_on.Goals as goal

pub overflow_add-row : goal.overflow_add-row
overflow_add-row c = omega (arith, at-row c.args.rows.now c.args.at (lent_entry c.in-Some.row) c.requires.rows (sym c.in-Some.ensures.row))

pub returns-then-row-first : goal.returns-then-row-first
returns-then-row-first c = λ is.
    goes_on-within c.args.rows.now c.args.at c.args.first (lent_entry c.in-Some.row) c.requires.rows c.requires.next (sym c.in-Some.ensures.row) c.if-row-first.true (leb-true _ _ is)
