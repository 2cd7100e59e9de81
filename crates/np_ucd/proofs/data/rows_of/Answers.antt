use Rattle.std.proofs.Common.{List, sym, subst, ◌∙◌}
use Rattle.np_ucd.specs.Entries.{Entry, AreRows}
use Rattle.np_ucd.proofs.RowLemmas.{rows_are}
use Rattle.np_ucd.proofs.data.rows_of.Goals as goal

pub from_rows-requires : goal.from_rows-requires
from_rows-requires c =
    subst (λ (rows : List Entry). AreRows rows) (sym (c.in_ok-rows.ensures ∙ c.in_ok-kept.ensures.rows)) (rows_are c.args.bytes.now c.in_ok-kept.ensures.fine)
