use Rattle.std.proofs.Common.{rules}
use Rattle.np_node.proofs.nodes.Node.restore.Goals as goal

pub returns-then-head-room : goal.returns-then-head-room
returns-then-head-room c = search rules
