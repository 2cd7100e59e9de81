use Rattle.std.proofs.Common.{rules}
use Rattle.np_node.proofs.nodes.Node.key_of.Goals as goal

pub returns-clause-some : goal.returns-clause-some
returns-clause-some c = search rules

pub returns-clause-key : goal.returns-clause-key
returns-clause-key c = search rules

pub returns-clause-none : goal.returns-clause-none
returns-clause-none c = search rules
