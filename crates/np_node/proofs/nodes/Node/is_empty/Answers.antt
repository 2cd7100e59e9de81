use Rattle.std.proofs.lemmas.Grind.{common_steps}
use Rattle.std.proofs.Common.{arith}
use Rattle.np_node.proofs.nodes.Node.is_empty.Goals as goal

pub returns : goal.returns
returns c = grind (arith, common_steps)
