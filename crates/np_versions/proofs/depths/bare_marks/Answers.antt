use Rattle.std.proofs.Common.{◌≡◌, ◌<◌, length, sym, ap, ◌∙◌, arith}
use Rattle.np_versions.specs.inside.Depths.{mapping_mark}
use Rattle.np_versions.proofs.RoundLemmas.{row_marks_more, row_marks_all, mark-bare, deep_mapping}
use Rattle.np_versions.proofs.RowLemmas.{length-empty}
use Rattle.np_versions.proofs.depths.bare_marks.Goals.{then-is_empty, else-is_empty}
use Rattle.np_versions.proofs.depths.bare_marks.Goals as goal

pub loop-at-preserved : goal.loop-at-preserved
loop-at-preserved c =
    let xs = c.mapping_at-mapping.result.now in
    let lt : c.loop-at.at < length c.args.characters.now.entries = omega arith in
    let mark : c.if-is_empty.push ≡ mapping_mark _ 0 xs =
    elim c.if-is_empty.branch [
      | then-is_empty w ↦ w.push-is ∙ sym (mark-bare _ 0 xs (sym (length-empty xs) ∙ sym w.if-is_empty.ensures))
      | else-is_empty w ↦ w.push-is ∙ sym (deep_mapping _ xs (sym (length-empty xs) ∙ sym w.if-is_empty.ensures))
    ]
    in
    c.in_ok-push.ensures.items
    ∙ row_marks_more _ 0 c.loop-at.at c.if-is_empty.push c.loop-at.marks.items lt c.loop-at.invariant (mark ∙ ap (mapping_mark _ 0) c.mapping_at-mapping.ensures)

pub returns-clause-marks : goal.returns-clause-marks
returns-clause-marks c = row_marks_all c.args.characters.now 0 c.loop-at.at c.loop-at.marks.items (omega arith) c.loop-at.invariant
