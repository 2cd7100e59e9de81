use Rattle.std.proofs.Common.{◌≡◌, chars, string_bytes}
use Rattle.np_code_points.specs.inside.WordValues.{scalars_of}
use Rattle.np_code_points.proofs.ValueGrammar.{joined}
use Rattle.np_schedules.specs.inside.LineValues.{behind_slash, up_to_slash}
use Rattle.np_schedules.proofs.reading.payloads.part_in.Given as goal

abbrev pub invariant-loop-word : goal.invariant-loop-word
invariant-loop-word l = record {
  codes : scalars_of (up_to_slash l.fn.words) ≡ joined (chars (string_bytes l.string)) (scalars_of (up_to_slash l.words));
  rest : behind_slash l.fn.words ≡ behind_slash l.words;
}
