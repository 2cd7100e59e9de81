use Rattle.np_ucd.specs.RowValues.{lent_entry}
use Rattle.np_chain.proofs.KeptRowLemmas.{kept-same, kept-single, no_break}
use Rattle.np_chain.proofs.kept_rows.keeps_row.Goals as goal

pub returns-then-lies_same : goal.returns-then-lies_same
returns-then-lies_same c = λ _.
    kept-same c.args.old.now c.args.new.now c.meets_conditions.ensures c.meets_conditions-2.ensures c.args.at (lent_entry c.row_in-row.result) c.row_in-row.ensures.place
    (c.lies_same.ensures c.if-lies_same.true)

pub returns : goal.returns
returns c = λ none.
    kept-single c.args.old.now c.args.new.now c.meets_conditions.ensures c.meets_conditions-2.ensures c.args.at (lent_entry c.row_in-row.result) c.row_in-row.ensures.place
    c.if-row.false (no_break _ _ _ c.break_at.ensures c.is_none.ensures none)
