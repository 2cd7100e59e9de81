use Rattle.std.proofs.Common.{rules}
use Rattle.np_c.proofs.node_exports.npss_node_message.Goals as goal

pub returns-in-Some-clause-message : goal.returns-in-Some-clause-message
returns-in-Some-clause-message c = search rules
