use Rattle.std.proofs.Common.{◌≡◌, ℕ, ◌<◌, true}
use Rattle.np_versions.proofs.Words.{hangul_at, is_hangul_row}
use Rattle.np_versions.proofs.hangul_faults.first_wrong.Given as goal

abbrev pub invariant-loop-place : goal.invariant-loop-place
invariant-loop-place l = (k : ℕ) → k < l.place → is_hangul_row l.characters (hangul_at k) ≡ true
