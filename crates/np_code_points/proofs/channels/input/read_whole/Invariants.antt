use Rattle.std.proofs.Common.{◌≡◌, ◌≤◌, ◌-◌, false, vec_len}
use Rattle.std.specs.Io.KnownBytes.{Consumes}
use Rattle.np_code_points.specs.Watched.{device_of, has_failed}
use Rattle.np_code_points.proofs.channels.input.read_whole.Given as goal

abbrev pub invariant-loop-bytes : goal.invariant-loop-bytes
invariant-loop-bytes g l = record {
  fits : vec_len l.bytes ≤ 16777217;
  space : vec_len l.piece ≡ 65536;
  clear : has_failed l.source ≡ false;
  taken : Consumes (g.R.Read.remaining (device_of l.initial.source)) (g.R.Read.remaining (device_of l.source)) l.bytes.items;
}

abbrev pub decreases-loop-bytes : goal.decreases-loop-bytes
decreases-loop-bytes g l = 16777218 - vec_len l.bytes
