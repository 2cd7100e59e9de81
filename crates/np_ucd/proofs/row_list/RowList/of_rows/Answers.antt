use Rattle.std.proofs.Common.{option_map, ap, ◌∙◌, sym, arith, rules}
use Rattle.np_ucd.specs.RowValues.{entry_of}
use Rattle.np_ucd.proofs.KeptLemmas.{walked, within-some}
use Rattle.np_ucd.proofs.row_list.RowList.of_rows.Goals as goal
use Rattle.np_ucd.proofs.row_list.RowList.of_rows.Goals.{in-Some+in_ok-push, in_default}

pub loop-at-preserved : goal.loop-at-preserved
loop-at-preserved c = elim c.match-get.branch [
  | in-Some+in_ok-push w ↦
      rw w.kept-is (
      w.in_ok-push.ensures
      ∙ walked c.args.rows c.loop-at.kept c.loop-at.at (entry_of w.in-Some.row.now) c.loop-at.invariant
      (sym c.get.ensures.row ∙ ap (option_map (λ r. entry_of r.now)) w.in-Some.is))
  | in_default w ↦
      absurd (within-some c.args.rows c.loop-at.at (omega (arith, c.len-at-end.ensures.count, c.loop-at-test.true))
      (sym c.get.ensures.row ∙ ap (option_map (λ r. entry_of r.now)) w.in_default.is))
]

pub loop-at-init : goal.loop-at-init
loop-at-init c = search rules
