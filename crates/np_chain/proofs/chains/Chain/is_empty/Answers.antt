use Rattle.std.proofs.Common.{rules}
use Rattle.np_chain.proofs.chains.Chain.is_empty.Goals as goal

pub returns : goal.returns
returns c = search rules
