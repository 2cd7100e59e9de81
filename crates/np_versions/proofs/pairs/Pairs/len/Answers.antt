use Rattle.std.proofs.Common.{rules}
use Rattle.np_versions.proofs.pairs.Pairs.len.Goals as goal

pub returns-clause-count : goal.returns-clause-count
returns-clause-count c = search rules
