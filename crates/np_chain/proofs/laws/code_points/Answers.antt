use Rattle.np_chain.proofs.CodePointLemmas.{of_code_points}
use Rattle.np_chain.proofs.laws.code_points.Goals as goal

pub returns : goal.returns
returns c = of_code_points
