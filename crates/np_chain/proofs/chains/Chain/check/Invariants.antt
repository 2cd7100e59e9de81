use Rattle.std.proofs.Common.{map, take}
use Rattle.np_chain.specs.Chain.{IsSoundChain}
use Rattle.np_chain.proofs.chains.Chain.check.Given as goal

abbrev pub invariant-loop-at : goal.invariant-loop-at
invariant-loop-at g l = IsSoundChain (take l.at (map g.T.NormTable.model l.tables))
