use Rattle.std.proofs.Common.{rules}
use Rattle.np_examples_shared.proofs.devices.EndlessRead.read.Goals as goal

pub returns-clause-fills : goal.returns-clause-fills
returns-clause-fills c = search rules

pub returns-clause-letters : goal.returns-clause-letters
returns-clause-letters c = search rules
