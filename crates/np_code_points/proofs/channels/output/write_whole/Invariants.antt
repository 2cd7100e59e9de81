use Rattle.std.proofs.Common.{◌≡◌, ◌≤◌, ◌-◌, false, length, take}
use Rattle.std.specs.Io.KnownBytes.{Appends}
use Rattle.np_code_points.specs.Watched.{device_of, has_failed}
use Rattle.np_code_points.proofs.channels.output.write_whole.Given as goal

abbrev pub invariant-loop-at : goal.invariant-loop-at
invariant-loop-at g l =
    (l.at ≤ length l.bytes) × (has_failed l.target ≡ false)
    × Appends (g.W.Write.contents (device_of l.initial.target)) (g.W.Write.contents (device_of l.target)) (take l.at l.bytes)

abbrev pub decreases-loop-at : goal.decreases-loop-at
decreases-loop-at g l = length l.bytes - l.at
