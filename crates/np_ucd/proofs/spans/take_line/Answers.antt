use Rattle.std.proofs.Common.{rules}
use Rattle.np_ucd.proofs.spans.take_line.Goals as goal

pub returns-in-None-clause-fine : goal.returns-in-None-clause-fine
returns-in-None-clause-fine c = search rules
