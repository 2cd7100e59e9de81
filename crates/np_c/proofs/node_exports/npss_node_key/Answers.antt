use Rattle.std.proofs.Common.{rules}
use Rattle.np_c.proofs.node_exports.npss_node_key.Goals as goal

pub returns-in-Some-clause-key : goal.returns-in-Some-clause-key
returns-in-Some-clause-key c = search rules
