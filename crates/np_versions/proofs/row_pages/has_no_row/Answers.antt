use Rattle.std.proofs.Common.{sym}
use Rattle.np_versions.proofs.Words.{leb-true, lent_entry}
use Rattle.np_versions.proofs.RowLemmas.{no_row-left, no_row-behind}
use Rattle.np_versions.proofs.row_pages.has_no_row.Goals as goal

pub returns-in-Some : goal.returns-in-Some
returns-in-Some c = λ is.
    no_row-behind c.args.rows.now c.args.at c.args.first (lent_entry c.in-Some.row) c.requires.rows c.requires.next (sym c.in-Some.ensures.row) (leb-true _ _ is)

pub returns-in-None : goal.returns-in-None
returns-in-None c = λ is.
    no_row-left c.args.rows.now c.args.at c.args.first c.requires.rows c.requires.next (sym c.in-None.ensures.row)
