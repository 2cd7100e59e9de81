use Rattle.std.proofs.Common.{rules}
use Rattle.np_c.proofs.node_exports.npss_node_take.Goals as goal

pub returns-in-Some-clause-kept : goal.returns-in-Some-clause-kept
returns-in-Some-clause-kept c = search rules
