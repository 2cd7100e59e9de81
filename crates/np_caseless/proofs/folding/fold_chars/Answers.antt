use Rattle.std.proofs.Common.{◌∷◌, [], ◌∙◌}
use Rattle.np_caseless.proofs.FoldLemmas.{fold_none, fold_next}
use Rattle.np_caseless.proofs.folding.fold_chars.Goals as goal
use Rattle.np_caseless.proofs.folding.fold_chars.Goals.{in-Some+in_ok-extend_from_slice-in-Some, in-None+in_ok-push-in-None}

pub loop-code-init : goal.loop-code-init
loop-code-init c = c.in_ok-folded.ensures.items ∙ fold_none c.args.foldings.now

pub loop-code-preserved : goal.loop-code-preserved
loop-code-preserved c = elim c.match-find.branch [
  | in-Some+in_ok-extend_from_slice-in-Some w ↦
      rw (w.folded-is, w.in_ok-extend_from_slice-in-Some.ensures.items)
      (fold_next c.args.foldings.now c.args.chars.now c.loop-code.folded.items w.in-Some.mapping.now c.loop-code.code-index c.code-item.result
      c.loop-code-test.true c.code-item.is c.loop-code.invariant w.in-Some.ensures)
  | in-None+in_ok-push-in-None w ↦
      rw (w.folded-is, w.in_ok-push-in-None.ensures.items)
      (fold_next c.args.foldings.now c.args.chars.now c.loop-code.folded.items (c.code-item.result ∷ []) c.loop-code.code-index c.code-item.result
      c.loop-code-test.true c.code-item.is c.loop-code.invariant w.in-None.ensures)
]
