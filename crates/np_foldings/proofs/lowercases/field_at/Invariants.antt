use Rattle.std.proofs.Common.{◌≡◌, ◌-◌}
use Rattle.np_ucd.specs.inside.RecordReading.{field}
use Rattle.np_foldings.proofs.lowercases.field_at.Given as goal

abbrev pub invariant-loop-passed : goal.invariant-loop-passed
invariant-loop-passed l = field l.at l.text ≡ field (l.at - l._passed) l.rest
