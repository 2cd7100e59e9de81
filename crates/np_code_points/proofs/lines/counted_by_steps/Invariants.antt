use Rattle.std.proofs.Common.{◌≡◌, ◌+◌, ◌-◌, ◌≤◌, length, drop, count_by}
use Rattle.np_code_points.specs.inside.LineCuts.{is_byte}
use Rattle.np_code_points.proofs.lines.counted_by_steps.Given as goal

abbrev pub invariant-loop-at : goal.invariant-loop-at
invariant-loop-at l = record {
  within : l.at ≤ length l.bytes;
  counted : l.count + count_by (is_byte l.byte) (drop l.at l.bytes) ≡ count_by (is_byte l.byte) l.bytes;
}

abbrev pub decreases-loop-at : goal.decreases-loop-at
decreases-loop-at l = length l.bytes - l.at
