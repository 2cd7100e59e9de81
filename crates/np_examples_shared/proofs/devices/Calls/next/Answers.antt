use Rattle.std.proofs.Common.{rules}
use Rattle.np_examples_shared.proofs.devices.Calls.next.Goals as goal

pub returns-in-Some-clause-fails : goal.returns-in-Some-clause-fails
returns-in-Some-clause-fails c = search rules

pub returns-in_default-clause-fails : goal.returns-in_default-clause-fails
returns-in_default-clause-fails c = search rules
