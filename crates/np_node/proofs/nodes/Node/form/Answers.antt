use Rattle.std.proofs.Common.{rules}
use Rattle.np_node.proofs.nodes.Node.form.Goals as goal

pub returns : goal.returns
returns c = search rules
