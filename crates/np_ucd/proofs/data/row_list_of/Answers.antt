use Rattle.std.proofs.Common.{List, sym, subst}
use Rattle.np_ucd.specs.Entries.{Entry, AreRows}
use Rattle.np_ucd.proofs.RowLemmas.{rows_are}
use Rattle.np_ucd.proofs.data.row_list_of.Goals as goal

pub from_kept-requires : goal.from_kept-requires
from_kept-requires c =
    subst (λ (rows : List Entry). AreRows rows) (sym c.in_ok-rows.ensures.rows) (rows_are c.args.bytes.now c.in_ok-rows.ensures.fine)
