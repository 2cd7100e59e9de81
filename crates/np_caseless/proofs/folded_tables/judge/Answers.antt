use Rattle.std.proofs.Common.{MatchOption, inr, sym, subst}
use Rattle.np_caseless.specs.ConditionFaults.{IsFaultless, IsLeastFault}
use Rattle.np_caseless.specs.Folded.{folded_by}
use Rattle.np_caseless.specs.inside.FirstFaults.{AreMapped}
use Rattle.np_caseless.proofs.folded_tables.judge.Goals as goal

pub returns-in-Some-clause-fault : goal.returns-in-Some-clause-fault
returns-in-Some-clause-fault g c =
    let version = g.T.NormTable.model c.args.table.now in
    let v = folded_by version c.args.foldings.now in
    let lowercases = c.args.lowercases.now in
    let mapped = subst (AreMapped version) (sym c.as_slice.ensures.value) c.in_ok-mapped.ensures in
    inr (subst (λ o. MatchOption o (IsFaultless v lowercases) (IsLeastFault v lowercases)) c.in-Some.is (c.in_ok-fault.ensures mapped))

pub returns-in-None-clause-faultless : goal.returns-in-None-clause-faultless
returns-in-None-clause-faultless g c =
    let version = g.T.NormTable.model c.args.table.now in
    let v = folded_by version c.args.foldings.now in
    let lowercases = c.args.lowercases.now in
    let mapped = subst (AreMapped version) (sym c.as_slice.ensures.value) c.in_ok-mapped.ensures in
    subst (λ o. MatchOption o (IsFaultless v lowercases) (IsLeastFault v lowercases)) c.in-None.is (c.in_ok-fault.ensures mapped)
