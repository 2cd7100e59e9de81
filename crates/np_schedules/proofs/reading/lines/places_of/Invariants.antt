use Rattle.std.proofs.Common.{◌≡◌, ◌≤◌, length}
use Rattle.np_code_points.specs.inside.WordValues.{values_of}
use Rattle.np_code_points.proofs.ValueGrammar.{joined}
use Rattle.np_schedules.specs.inside.LineValues.{below_value}
use Rattle.np_schedules.proofs.reading.lines.places_of.Given as goal

abbrev pub invariant-loop-word : goal.invariant-loop-word
invariant-loop-word l = record {
  total : values_of (below_value l.bound) l.fn.words ≡ joined l.places.items (values_of (below_value l.bound) l.word-iterator);
  room : length l.places.items ≤ 64;
}
