use Rattle.std.proofs.Common.{rules}
use Rattle.np_examples_shared.proofs.devices.TrickleRead.read.Goals as goal

pub returns-clause-gives : goal.returns-clause-gives
returns-clause-gives c = search rules
