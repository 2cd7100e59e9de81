use Rattle.std.proofs.lemmas.Grind.{common_steps}
use Rattle.std.proofs.Common.{rules, arith}
use Rattle.np_chain.proofs.chains.Chain.len.Goals as goal

pub returns-clause-count : goal.returns-clause-count
returns-clause-count c = search rules

pub returns-clause-some : goal.returns-clause-some
returns-clause-some c = grind (arith, common_steps)
