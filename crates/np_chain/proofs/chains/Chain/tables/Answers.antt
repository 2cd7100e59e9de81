use Rattle.std.proofs.Common.{rules}
use Rattle.np_chain.proofs.chains.Chain.tables.Goals as goal

pub returns : goal.returns
returns c = search rules
