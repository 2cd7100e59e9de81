use Rattle.np_node.proofs.LawLemmas.{restored}
use Rattle.np_node.proofs.laws.restored.Goals as goal

pub returns : goal.returns
returns g c = restored g.T.NormTable.model
