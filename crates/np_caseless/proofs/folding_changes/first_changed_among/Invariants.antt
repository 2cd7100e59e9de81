use Rattle.np_versions.specs.inside.FirstFaults.{IsFirst}
use Rattle.np_caseless.specs.inside.FirstFaults.{Below}
use Rattle.np_caseless.specs.inside.FoldingChanges.{IsChangedAt}
use Rattle.np_caseless.proofs.folding_changes.first_changed_among.Given as goal

abbrev pub invariant-loop-at : goal.invariant-loop-at
invariant-loop-at g l = IsFirst (Below (IsChangedAt l.old l.new l.listed) l.at) l.first
