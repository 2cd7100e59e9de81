use Rattle.std.proofs.lemmas.Grind.{common_steps}
use Rattle.std.proofs.Common.{arith}
use Rattle.np_code_points.proofs.words.after_dividers.Goals as goal

pub returns-then-not-divides : goal.returns-then-not-divides
returns-then-not-divides c = grind (arith, common_steps)
