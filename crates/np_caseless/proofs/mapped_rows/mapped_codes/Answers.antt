use Rattle.std.proofs.Common.{◌≡◌, ℕ, ◌∙◌, length, arith, sym, ap, subst}
use Rattle.std.specs.List.{slice_get}
use Rattle.np_versions.specs.Versions.{VersionData}
use Rattle.np_caseless.specs.inside.FirstFaults.{AreMappedBelow, IsRowAt}
use Rattle.np_caseless.proofs.MappedLemmas.{mapped_more, mapped_none}
use Rattle.np_caseless.proofs.ImageTableLemmas.{row_only}
use Rattle.np_caseless.proofs.mapped_rows.mapped_codes.Goals as goal
use Rattle.np_caseless.proofs.mapped_rows.mapped_codes.Goals.{in-Some+in_ok-push, in_default}

pub loop-at-preserved : goal.loop-at-preserved
loop-at-preserved g c =
    let version = g.T.NormTable.model c.args.table.now in
    let at = c.loop-at.at in
    let first = c.row_in-first.result.first in
    let codes = c.loop-at.codes.items in
    let here = ap (λ (d : VersionData). slice_get d.entries at) (sym c.version-in-loop-at.ensures.same) ∙ c.row_in-first.ensures.place in
    let only : (d : ℕ) → IsRowAt version.entries at d → d ≡ first = λ d there. row_only version.entries at d _ here there in
    elim c.match-mapped_in.branch [
      | in-Some+in_ok-push w ↦
          rw (w.codes-is, w.in_ok-push.ensures.items) (mapped_more version at first w.in-Some.code codes only w.in-Some.ensures.some c.loop-at.invariant)
      | in_default w ↦ rw w.codes-is (mapped_none version at first codes only w.in_default.ensures.none c.loop-at.invariant)
    ]

pub returns : goal.returns
returns g c =
    let version = g.T.NormTable.model c.args.table.now in
    let entries = ap (λ (d : VersionData). length d.entries) c.version.ensures.same in
    let all : c.loop-at.at ≡ length version.entries =
    omega (arith, c.loop-at-test.false, c.loop-at.auto.at-end, c.row_count-at-end.ensures, entries) in
    subst (λ n. AreMappedBelow version n c.loop-at.codes.items) all c.loop-at.invariant
