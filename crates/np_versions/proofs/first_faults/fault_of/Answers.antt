use Rattle.std.proofs.Common.{sym, subst, MatchOption}
use Rattle.np_versions.specs.TableFaults.{IsFaultless, IsLeastFault}
use Rattle.np_versions.proofs.FaultLemmas.{least_fault-told}
use Rattle.np_versions.proofs.first_faults.fault_of.Goals as goal

pub returns : goal.returns
returns c =
    let v = c.args.characters.now in
    subst (λ o. MatchOption o (IsFaultless v) (IsLeastFault v)) (sym c.least_fault.ensures) (least_fault-told v c.in_ok-first_faults.field-0 c.in_ok-first_faults.ensures)
