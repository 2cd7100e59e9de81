use Rattle.std.proofs.Common.{◌≡◌, ◌+◌, ◌∙◌, length, arith, sym, subst}
use Rattle.np_versions.specs.inside.FirstFaults.{IsFirst}
use Rattle.np_caseless.specs.inside.FirstFaults.{Below}
use Rattle.np_caseless.specs.inside.FoldingChanges.{IsChangedAt}
use Rattle.np_caseless.proofs.ChangeLemmas.{code_counts, code_passes, no_code}
use Rattle.np_caseless.proofs.folding_changes.first_changed_among.Goals as goal
use Rattle.np_caseless.proofs.folding_changes.first_changed_among.Goals.{in-Some+then-changes_folding, in-Some+else-changes_folding, in_default}

pub loop-at-preserved : goal.loop-at-preserved
loop-at-preserved g c =
    let listed = c.args.listed.now in
    let at = IsChangedAt c.args.old.now c.args.new.now listed in
    elim c.match-code_at.branch [
      | in-Some+then-changes_folding w ↦
          subst (IsFirst (Below at (c.loop-at.at + 1))) (sym (w.first-is ∙ w.least-first.ensures))
          (code_counts c.args.old.now c.args.new.now listed c.loop-at.first c.loop-at.at w.in-Some.code c.loop-at.invariant w.in-Some.ensures
          (sym w.changes_folding.ensures ∙ w.if-changes_folding.true))
      | in-Some+else-changes_folding w ↦
          subst (IsFirst (Below at (c.loop-at.at + 1))) (sym w.first-is)
          (code_passes c.args.old.now c.args.new.now listed c.loop-at.first c.loop-at.at w.in-Some.code c.loop-at.invariant w.in-Some.ensures
          (sym w.changes_folding.ensures ∙ w.if-changes_folding.false))
      | in_default w ↦
          subst (IsFirst (Below at (c.loop-at.at + 1))) (sym w.first-is)
          (no_code c.args.old.now c.args.new.now listed c.loop-at.first c.loop-at.at c.loop-at.invariant (sym w.in_default.is ∙ c.code_at.ensures))
    ]

pub returns : goal.returns
returns g c =
    let all : c.loop-at.at ≡ length c.args.listed.now = omega (arith, c.loop-at-test.false, c.loop-at.auto.at-end, c.len-at-end.ensures) in
    subst (λ n. IsFirst (Below (IsChangedAt c.args.old.now c.args.new.now c.args.listed.now) n) c.loop-at.first) all c.loop-at.invariant
