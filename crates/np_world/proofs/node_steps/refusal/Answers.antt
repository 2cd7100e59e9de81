use Rattle.std.proofs.Common.{rules}
use Rattle.np_world.proofs.node_steps.refusal.Goals as goal

pub returns-in-Malformed : goal.returns-in-Malformed
returns-in-Malformed c = search rules
