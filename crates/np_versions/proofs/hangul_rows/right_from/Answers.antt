use Rattle.std.proofs.Common.{ap, sym, ◌∙◌, arith}
use Rattle.np_versions.proofs.Words.{lent_entry, is_right_at, entry_at}
use Rattle.np_versions.proofs.RightLemmas.{right_run, row_end}
use Rattle.np_versions.proofs.hangul_rows.right_from.Goals as goal

pub overflow_sub-result : goal.overflow_sub-result
overflow_sub-result c = (row_end c.args.rows.now c.hangul_at-code.result (lent_entry c.in-Some.row) c.requires.rows c.in-Some.ensures.row).0

pub overflow_add-result : goal.overflow_add-result
overflow_add-result c = omega (arith, row_end c.args.rows.now c.hangul_at-code.result (lent_entry c.in-Some.row) c.requires.rows c.in-Some.ensures.row)

pub returns-in-Some-clause-bound : goal.returns-in-Some-clause-bound
returns-in-Some-clause-bound c = omega (arith, row_end c.args.rows.now c.hangul_at-code.result (lent_entry c.in-Some.row) c.requires.rows c.in-Some.ensures.row)

pub returns-in-Some-clause-right : goal.returns-in-Some-clause-right
returns-in-Some-clause-right c = λ k le lt.
    let code = c.hangul_at-code.ensures in
    right_run c.args.rows.now c.args.place k (lent_entry c.in-Some.row) c.requires.rows (c.in-Some.ensures.row ∙ ap (entry_at c.args.rows.now) code) (omega arith) le
    (omega arith) (ap (is_right_at c.args.rows.now) (sym code) ∙ sym c.is_right.ensures ∙ c.if-not-is_right.false)
