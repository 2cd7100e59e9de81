use Rattle.std.proofs.Common.{rules}
use Rattle.np_node.proofs.faults.NodeFault.name.Goals as goal

pub returns-in-Full : goal.returns-in-Full
returns-in-Full c = search rules
