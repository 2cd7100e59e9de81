use Rattle.std.proofs.Common.{◌≡◌, ℕ, ◌<◌, false}
use Rattle.np_versions.proofs.Words.{hangul_at, is_assigned}
use Rattle.np_versions.proofs.hangul_faults.has_some.Given as goal

abbrev pub invariant-loop-place : goal.invariant-loop-place
invariant-loop-place l = (k : ℕ) → k < l.place → is_assigned l.characters (hangul_at k) ≡ false
