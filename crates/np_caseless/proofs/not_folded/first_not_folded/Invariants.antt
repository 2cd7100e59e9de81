use Rattle.np_versions.specs.inside.FirstFaults.{IsFirst}
use Rattle.np_caseless.specs.Folded.{folded_by}
use Rattle.np_caseless.specs.inside.FirstFaults.{Below}
use Rattle.np_caseless.specs.inside.Unfolded.{IsUnfoldedAt}
use Rattle.np_caseless.proofs.not_folded.first_not_folded.Given as goal

abbrev pub invariant-loop-pair : goal.invariant-loop-pair
invariant-loop-pair l = IsFirst (Below (IsUnfoldedAt (folded_by l.version l.foldings) l.lowercases) l.pair-index) l.first
