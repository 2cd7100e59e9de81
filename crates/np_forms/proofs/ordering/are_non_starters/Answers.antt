use Rattle.std.proofs.lemmas.Grind.{common_steps}
use Rattle.std.proofs.Common.{arith}
use Rattle.np_forms.proofs.ordering.are_non_starters.Goals as goal

pub returns : goal.returns
returns c = grind (arith, common_steps)
