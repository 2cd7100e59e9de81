use Rattle.std.proofs.Common.{◌≡◌, ℕ, ◌<◌, false}
use Rattle.np_versions.specs.Versions.{is_hangul}
use Rattle.np_caseless.specs.inside.FirstFaults.{IsFoldingAt}
use Rattle.np_caseless.proofs.quiet_hangul.is_hangul_quiet.Given as goal

abbrev pub invariant-loop-at : goal.invariant-loop-at
invariant-loop-at l = (k d : ℕ) → k < l.at → IsFoldingAt l.foldings k d → is_hangul d ≡ false
