use Rattle.std.proofs.Common.{◌∙◌, refl, sym, subst}
use Rattle.np_chain.specs.Breaks as version
use Rattle.np_chain.specs.Extension.{Extends}
use Rattle.np_caseless.specs.Breaks.{IsFirstBreak}
use Rattle.np_caseless.proofs.AuditLemmas.{along, extends_where, first_of_folding, first_refutes, told_first}
use Rattle.np_caseless.proofs.BackwardLemmas.{left}
use Rattle.np_caseless.proofs.StabilityLemmas.{key_stability}
use Rattle.np_caseless.proofs.audits.extends.Goals as goal

pub returns-in-Some-clause-first : goal.returns-in-Some-clause-first
returns-in-Some-clause-first g c =
    let old = c.args.old.now in
    let new = c.args.new.now in
    let ext =
    along Extends c.version.result.now c.version-2.result.now old.version new.version (c.version.ensures.same ∙ c.table.ensures)
    (c.version-2.ensures.same ∙ c.table-2.ensures) (c.in-Ok.ensures.extends.0 refl) in
    subst (IsFirstBreak old new) (sym c.of_folding.ensures) (first_of_folding old new c.in-Some.code ext c.in-Some.ensures)

pub returns-in-Some-clause-extends : goal.returns-in-Some-clause-extends
returns-in-Some-clause-extends g c = (
  λ h. absurd (cc),
  λ ext. absurd (first_refutes c.args.old.now c.args.new.now c.of_folding.result (returns-in-Some-clause-first g c) ext),
)

pub returns-in-None-clause-extends : goal.returns-in-None-clause-extends
returns-in-None-clause-extends g c = (
  λ _.
      let old = c.args.old.now in
      let new = c.args.new.now in
      extends_where old new
      (along Extends c.version.result.now c.version-2.result.now old.version new.version (c.version.ensures.same ∙ c.table.ensures)
      (c.version-2.ensures.same ∙ c.table-2.ensures) (c.in-Ok.ensures.extends.0 refl)) c.in-None.ensures,
  λ _. refl,
)

pub returns-in-None-clause-keeps : goal.returns-in-None-clause-keeps
returns-in-None-clause-keeps g c = λ form xs ks all is.
    (key_stability c.args.old.now c.args.new.now form xs ks c.meets_conditions.ensures c.meets_conditions-2.ensures
    ((returns-in-None-clause-extends g c).0 refl) all is).0

pub returns-in-None-clause-leaves : goal.returns-in-None-clause-leaves
returns-in-None-clause-leaves g c =
    left c.args.old.now c.args.new.now c.meets_conditions.ensures c.meets_conditions-2.ensures ((returns-in-None-clause-extends g c).0 refl)

pub returns-in-Err-clause-first : goal.returns-in-Err-clause-first
returns-in-Err-clause-first g c =
    let old = c.args.old.now in
    let new = c.args.new.now in
    let first =
    along (λ v w. version.IsFirstBreak v w c.in-Err.of_version) c.version.result.now c.version-2.result.now old.version new.version (c.version.ensures.same ∙ c.table.ensures)
    (c.version-2.ensures.same ∙ c.table-2.ensures) c.in-Err.ensures.first in
    subst (IsFirstBreak old new) (sym c.first_of.ensures)
    (told_first old new c.in-Err.of_version first c.first_changed-changed.result c.first_changed-changed.ensures)
