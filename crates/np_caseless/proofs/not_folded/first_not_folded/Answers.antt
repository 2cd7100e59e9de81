use Rattle.std.proofs.Common.{◌≡◌, ◌∙◌, length, arith, subst}
use Rattle.np_versions.specs.inside.FirstFaults.{IsFirst}
use Rattle.np_caseless.specs.Folded.{folded_by}
use Rattle.np_caseless.specs.inside.FirstFaults.{Below}
use Rattle.np_caseless.specs.inside.Unfolded.{IsUnfoldedAt}
use Rattle.np_caseless.proofs.UnfoldedLemmas.{first_unfolded, pair_counts, pair_passes}
use Rattle.np_caseless.proofs.not_folded.first_not_folded.Goals as goal
use Rattle.np_caseless.proofs.not_folded.first_not_folded.Goals.{then-lacks_folding, else-lacks_folding}

pub loop-pair-preserved : goal.loop-pair-preserved
loop-pair-preserved c =
    let v = folded_by c.args.version.now c.args.foldings.now in
    elim c.if-lacks_folding.branch [
      | then-lacks_folding w ↦
          pair_counts v c.args.lowercases.now c.loop-pair.first c.if-lacks_folding.first c.loop-pair.pair-index _ c.lacks_folding.result c.loop-pair-test.true
          c.loop-pair.invariant c.lacks_folding.ensures w.if-lacks_folding.true (w.first-is ∙ w.least-first.ensures)
      | else-lacks_folding w ↦
          pair_passes v c.args.lowercases.now c.loop-pair.first c.if-lacks_folding.first c.loop-pair.pair-index _ c.lacks_folding.result c.loop-pair-test.true
          c.loop-pair.invariant c.lacks_folding.ensures w.if-lacks_folding.false w.first-is
    ]

pub returns : goal.returns
returns c =
    let v = folded_by c.args.version.now c.args.foldings.now in
    let all : c.loop-pair.pair-index ≡ length c.args.lowercases.now = omega (arith, c.loop-pair-test.false, c.loop-pair.auto.pair-index-end) in
    first_unfolded v c.args.lowercases.now c.loop-pair.first
    (subst (λ n. IsFirst (Below (IsUnfoldedAt v c.args.lowercases.now) n) c.loop-pair.first) all c.loop-pair.invariant)
