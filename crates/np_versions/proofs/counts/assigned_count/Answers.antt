use Rattle.std.proofs.Common.{◌∙◌, sym, ap, arith, option_map}
use Rattle.np_ucd.specs.RowValues.{lent_entry}
use Rattle.np_versions.proofs.RowLemmas.{at-row}
use Rattle.np_versions.proofs.CountLemmas.{sizes-count, sizes-le, sizes-drop, sizes-end, sizes-past}
use Rattle.np_versions.proofs.counts.assigned_count.Goals.{in-Some, in_default}
use Rattle.np_versions.proofs.counts.assigned_count.Goals as goal

pub overflow_sub-count : goal.overflow_sub-count
overflow_sub-count c =
    (at-row c.args.characters.now.entries c.loop-at.at (lent_entry c.in-Some.row) c.len-at-end.ensures.rows (sym c.in-Some.ensures.row)).rises

pub overflow_add-count : goal.overflow_add-count
overflow_add-count c = omega (arith, (at-row c.args.characters.now.entries c.loop-at.at (lent_entry c.in-Some.row) c.len-at-end.ensures.rows (sym c.in-Some.ensures.row)).bounded)

pub overflow_add-count-in-Some : goal.overflow_add-count-in-Some
overflow_add-count-in-Some c =
    omega (arith, sizes-drop c.args.characters.now.entries c.loop-at.at (lent_entry c.in-Some.row) (sym c.in-Some.ensures.row), sizes-le c.args.characters.now c.len-at-end.ensures.rows)

pub loop-at-preserved : goal.loop-at-preserved
loop-at-preserved c =
    let es = c.args.characters.now.entries in
    elim c.match-row.branch [
      | in-Some w ↦ omega (arith, sizes-drop es c.loop-at.at (lent_entry w.in-Some.row) (sym w.in-Some.ensures.row))
      | in_default w ↦ absurd (sizes-past es c.loop-at.at (omega arith) (sym c.row.ensures.row ∙ ap (option_map lent_entry) w.in_default.is))
    ]

pub returns : goal.returns
returns c = omega (arith, sizes-end c.args.characters.now.entries c.loop-at.at (omega arith), sizes-count c.args.characters.now c.len-at-end.ensures.rows)
