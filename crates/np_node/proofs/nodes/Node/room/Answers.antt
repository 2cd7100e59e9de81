use Rattle.std.proofs.Common.{rules}
use Rattle.np_node.proofs.nodes.Node.room.Goals as goal

pub returns : goal.returns
returns c = search rules
