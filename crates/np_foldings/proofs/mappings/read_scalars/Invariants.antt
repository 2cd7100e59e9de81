use Rattle.std.proofs.Common.{◌≡◌, ◌≤◌, length}
use Rattle.np_code_points.specs.declared.words.Dividers.TheVariants.{Spaces}
use Rattle.np_code_points.specs.inside.WordValues.{scalars_of}
use Rattle.np_code_points.specs.inside.WordCuts.{words_of}
use Rattle.np_code_points.proofs.ValueGrammar.{joined}
use Rattle.np_foldings.proofs.mappings.read_scalars.Given as goal

abbrev pub invariant-loop-word : goal.invariant-loop-word
invariant-loop-word l = record {
  total : scalars_of (words_of Spaces l.text) ≡ joined l.codes.items (scalars_of l.word-iterator);
  room : length l.codes.items ≤ l.most;
}
