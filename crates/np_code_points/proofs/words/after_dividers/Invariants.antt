use Rattle.std.proofs.Common.{◌≡◌, drop}
use Rattle.np_code_points.specs.inside.WordCuts.{divides, after_all}
use Rattle.np_code_points.proofs.words.after_dividers.Given as goal

abbrev pub invariant-loop-at : goal.invariant-loop-at
invariant-loop-at l = after_all (divides l.dividers) l.text ≡ after_all (divides l.dividers) (drop l.at l.text)
