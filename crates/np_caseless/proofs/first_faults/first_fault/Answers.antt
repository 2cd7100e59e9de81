use Rattle.std.proofs.Common.{◌∙◌, MatchOption, sym, ap, subst}
use Rattle.np_versions.specs.Versions.{VersionData}
use Rattle.np_versions.specs.inside.FirstFaults.{IsFirst}
use Rattle.np_caseless.specs.ConditionFaults.{IsFaultless, IsLeastFault}
use Rattle.np_caseless.specs.Faults.{IsNotFolded}
use Rattle.np_caseless.specs.Folded.{folded_by}
use Rattle.np_caseless.specs.inside.FirstFaults.{sooner}
use Rattle.np_caseless.proofs.FirstLemmas.{told}
use Rattle.np_caseless.proofs.first_faults.first_fault.Goals as goal

pub returns : goal.returns
returns g c = λ mapped.
    let v = folded_by (g.T.NormTable.model c.args.table.now) c.args.foldings.now in
    let lowercases = c.args.lowercases.now in
    let unfolded = c.first_not_folded-not_folded.result in
    let first =
    subst (λ (d : VersionData). IsFirst (IsNotFolded (folded_by d c.args.foldings.now) lowercases) unfolded) c.version.ensures.same c.first_not_folded-not_folded.ensures in
    subst (λ o. MatchOption o (IsFaultless v lowercases) (IsLeastFault v lowercases)) (sym (c.sooner.ensures ∙ ap (sooner c.in_ok-fault.fault) c.of_lowercase.ensures))
    (told v lowercases c.in_ok-fault.fault unfolded (c.in_ok-fault.ensures mapped) first)
