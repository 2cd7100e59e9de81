use Rattle.std.proofs.Common.{◌-◌, map, refl, arith}
use Rattle.np_chain.proofs.ChainLemmas.{get-map, more-chain, broken-refutes}
use Rattle.np_chain.proofs.chains.Chain.check.Goals as goal

pub returns-in-Err-clause-fault : goal.returns-in-Err-clause-fault
returns-in-Err-clause-fault g c =
    let f = g.T.NormTable.model in
    let xs = c.args.tables.now in
    let at = c.loop-at.at in
    let before = get-map f xs (at - 1) c.index-tables-at.result (omega arith) c.index-tables-at.is in
    let here = get-map f xs at c.index-tables-at-in-loop-at.result (omega arith) c.index-tables-at-in-loop-at.is in
    record {
      old = c.version.result.now;
      new = c.version-in-loop-at.result.now;
      behind = omega arith;
      before = cc;
      here = cc;
      first = c.in-Err.ensures.first;
      chain = c.loop-at.invariant.chain;
    }

pub returns-in-Err-clause-chain : goal.returns-in-Err-clause-chain
returns-in-Err-clause-chain g c = (
  λ h. cc,
  λ chain.
      absurd
      (broken-refutes (map g.T.NormTable.model c.args.tables.now) c.loop-at.at c.in-Err.brk (returns-in-Err-clause-fault g c) chain),
)

pub loop-at-preserved : goal.loop-at-preserved
loop-at-preserved g c =
    let f = g.T.NormTable.model in
    let xs = c.args.tables.now in
    let at = c.loop-at.at in
    let before = get-map f xs (at - 1) c.index-tables-at.result (omega arith) c.index-tables-at.is in
    let here = get-map f xs at c.index-tables-at-in-loop-at.result (omega arith) c.index-tables-at-in-loop-at.is in
    more-chain (map f xs) at c.version.result.now c.version-in-loop-at.result.now (omega arith) c.loop-at.invariant (cc) (cc)
    (rw c.version-in-loop-at.ensures.same c.version-in-loop-at.ensures.sound)
    (c.in_default.ensures.extends.0 refl)
