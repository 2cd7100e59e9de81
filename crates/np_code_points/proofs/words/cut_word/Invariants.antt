use Rattle.std.proofs.Common.{◌≡◌, ◌++◌, take, drop}
use Rattle.np_code_points.specs.inside.LineCuts.{before_first, after_first}
use Rattle.np_code_points.specs.inside.WordCuts.{divides}
use Rattle.np_code_points.proofs.words.cut_word.Given as goal

abbrev pub invariant-loop-at : goal.invariant-loop-at
invariant-loop-at l = record {
  before : before_first (divides l.dividers) l.text ≡ take l.at l.text ++ before_first (divides l.dividers) (drop l.at l.text);
  after : after_first (divides l.dividers) l.text ≡ after_first (divides l.dividers) (drop l.at l.text);
}
