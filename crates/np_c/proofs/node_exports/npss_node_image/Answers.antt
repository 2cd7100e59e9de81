use Rattle.std.proofs.Common.{rules}
use Rattle.np_c.proofs.node_exports.npss_node_image.Goals as goal

pub returns-in-Some-clause-image : goal.returns-in-Some-clause-image
returns-in-Some-clause-image c = search rules
