use Rattle.std.proofs.Common.{List, [], ◌≡◌, ◌↔◌, ◌∙◌, ap, arith, subst}
use Rattle.np_chain.specs.Breaks as version
use Rattle.np_chain.specs.Extension.{Extends}
use Rattle.np_chain.specs.declared.breaks.Break.{Break}
use Rattle.np_caseless.specs.inside.BreakSteps.{IsAtNext, place_behind}
use Rattle.np_caseless.proofs.AuditLemmas.{all_below, along, at_hand, next_behind, nil_exactly}
use Rattle.np_caseless.proofs.audits.audit.Goals as goal

pub push_break-requires-clause-version : goal.push_break-requires-clause-version
push_break-requires-clause-version g c =
    let old = c.args.old.now in
    let new = c.args.new.now in
    let six = c.in_ok-of_versions.of_versions.items in
    let are =
    along (λ v w. version.AreBreaks v w six) c.version.result.now c.version-2.result.now old.version new.version (c.version.ensures.same ∙ c.table.ensures)
    (c.version-2.ensures.same ∙ c.table-2.ensures) c.in_ok-of_versions.ensures.breaks in
    at_hand old new six are c.loop-code.next c.loop-code.code c.loop-code.invariant.next c.kind_at-of_version.result
    (subst (λ (bs : List Break). IsAtNext bs c.loop-code.next c.loop-code.code c.kind_at-of_version.result) c.as_slice.ensures.value c.kind_at-of_version.ensures)

pub loop-code-preserved : goal.loop-code-preserved
loop-code-preserved g c =
    let old = c.args.old.now in
    let new = c.args.new.now in
    let six = c.in_ok-of_versions.of_versions.items in
    let found = c.kind_at-of_version.result in
    let are =
    along (λ v w. version.AreBreaks v w six) c.version.result.now c.version-2.result.now old.version new.version (c.version.ensures.same ∙ c.table.ensures)
    (c.version-2.ensures.same ∙ c.table-2.ensures) c.in_ok-of_versions.ensures.breaks in
    record {
      next =
          next_behind old new six are c.loop-code.next c.loop-code.code c.loop-code.invariant.next found c.passed-next.result
          (subst (λ (bs : List Break). IsAtNext bs c.loop-code.next c.loop-code.code found) c.as_slice.ensures.value c.kind_at-of_version.ensures)
          (c.passed-next.ensures ∙ ap (λ (bs : List Break). place_behind bs c.loop-code.next found) c.as_slice-in-loop-code.ensures.value);
      below = c.in_ok-push_break.ensures;
    }

pub returns-clause-breaks : goal.returns-clause-breaks
returns-clause-breaks g c =
    all_below c.args.old.now c.args.new.now c.meets_conditions.ensures.version c.meets_conditions-2.ensures.version c.loop-code.code c.loop-code.breaks.items
    (omega (arith, c.loop-code-test.false, c.loop-code.auto.code-end)) c.loop-code.invariant.below

pub returns-clause-none : goal.returns-clause-none
returns-clause-none g c =
    let old = c.args.old.now in
    let new = c.args.new.now in
    let six = c.in_ok-of_versions.of_versions.items in
    let e = c.version.ensures.same ∙ c.table.ensures in
    let f = c.version-2.ensures.same ∙ c.table-2.ensures in
    nil_exactly old new six c.loop-code.breaks.items
    (along (λ v w. version.AreBreaks v w six) c.version.result.now c.version-2.result.now old.version new.version e f c.in_ok-of_versions.ensures.breaks)
    (along (λ v w. (six ≡ []) ↔ Extends v w) c.version.result.now c.version-2.result.now old.version new.version e f c.in_ok-of_versions.ensures.none)
    (returns-clause-breaks g c)
