use Rattle.np_versions.proofs.RowLemmas.{pushed-more}
use Rattle.np_versions.proofs.row_pages.push_block.Goals as goal
use Rattle.np_versions.proofs.row_pages.push_block.Goals.{then-here+in_ok-push, else-here+in_ok-push-2}

pub loop-low-preserved : goal.loop-low-preserved
loop-low-preserved c =
    let known = c.number_at-here.ensures in
    elim c.if-here.branch [
      | then-here+in_ok-push w ↦
          rw (w.numbers-is, w.at-is)
          (pushed-more c.args.rows.now c.args.first c.loop-low.low c.args.numbers.now.items c.loop-low.numbers.items _ c.loop-low.at _ c.number_at-here.result.number c.loop-low.invariant known.number (known.ends w.if-here.true) w.in_ok-push.ensures.items)
      | else-here+in_ok-push-2 w ↦
          rw (w.numbers-is, w.at-is)
          (pushed-more c.args.rows.now c.args.first c.loop-low.low c.args.numbers.now.items c.loop-low.numbers.items _ c.loop-low.at _ c.number_at-here.result.number c.loop-low.invariant known.number (known.goes_on w.if-here.false) w.in_ok-push-2.ensures.items)
    ]
