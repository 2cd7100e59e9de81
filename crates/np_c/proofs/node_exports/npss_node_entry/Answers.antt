use Rattle.std.proofs.Common.{rules}
use Rattle.np_c.proofs.node_exports.npss_node_entry.Goals as goal

pub returns-in-Some-clause-entry : goal.returns-in-Some-clause-entry
returns-in-Some-clause-entry c = search rules
