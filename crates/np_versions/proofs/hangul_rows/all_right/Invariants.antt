use Rattle.std.proofs.Common.{◌≡◌, ℕ, ◌-◌, ◌<◌, true}
use Rattle.np_versions.specs.inside.HangulRows.{hangul_at, is_right_at}
use Rattle.np_versions.proofs.hangul_rows.all_right.Given as goal

abbrev pub decreases-loop-place : goal.decreases-loop-place
decreases-loop-place l = 11239 - l.place

abbrev pub invariant-loop-place : goal.invariant-loop-place
invariant-loop-place l = (k : ℕ) → k < l.place → is_right_at l.rows (hangul_at k) ≡ true
