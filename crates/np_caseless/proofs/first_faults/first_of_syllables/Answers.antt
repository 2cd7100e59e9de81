use Rattle.std.proofs.Common.{◌≡◌, ◌+◌, sym, subst, ◌∙◌, arith}
use Rattle.std.proofs.lemmas.Bool.{and_parts, both_ways}
use Rattle.np_code_points.specs.Hangul.{is_syllable}
use Rattle.np_versions.specs.Versions.{has_hangul}
use Rattle.np_caseless.specs.Folded.{folded_by}
use Rattle.np_caseless.specs.inside.FirstFaults.{Below, IsFirstOf, IsOfArithmetic, IsSyllableAt}
use Rattle.np_caseless.proofs.FineLemmas.{syllable_fine}
use Rattle.np_caseless.proofs.FirstLemmas.{of_fewer, of_one, one_more, syllable_place}
use Rattle.np_caseless.proofs.first_faults.first_of_syllables.Goals as goal
use Rattle.np_caseless.proofs.first_faults.first_of_syllables.Goals.{then-not-hangul-via-then-not-hangul, then-not-hangul-via-else-not-hangul+then-is_hangul_quiet}

pub returns-then-not-hangul : goal.returns-then-not-hangul
returns-then-not-hangul g c = λ d on.
    let version = g.T.NormTable.model c.args.table.now in
    let both = and_parts (has_hangul version) (is_syllable d) on in
    elim c.then-not-hangul.branch [
      | then-not-hangul-via-then-not-hangul w ↦ absurd (both_ways (has_hangul version) (sym c.hangul.ensures ∙ w.if-not-hangul.true) both.0)
      | then-not-hangul-via-else-not-hangul+then-is_hangul_quiet w ↦
          syllable_fine (folded_by version c.args.foldings.now) c.meets_conditions.ensures both.0 (w.is_hangul_quiet.ensures w.if-is_hangul_quiet.true) d both.1
    ]

pub loop-at-preserved : goal.loop-at-preserved
loop-at-preserved g c =
    let v = folded_by (g.T.NormTable.model c.args.table.now) c.args.foldings.now in
    subst (IsFirstOf v (Below IsSyllableAt (c.loop-at.at + 1))) (sym c.sooner-first.ensures)
    (one_more v IsSyllableAt c.loop-at.at c.loop-at.first c.in_ok-fault.fault c.loop-at.invariant
    (of_one v (0xAC00 + c.loop-at.at) c.in_ok-fault.fault c.in_ok-fault.ensures))

pub returns : goal.returns
returns g c =
    let version = g.T.NormTable.model c.args.table.now in
    let v = folded_by version c.args.foldings.now in
    let all : c.loop-at.at ≡ 11172 = omega (arith, c.loop-at-test.false, c.loop-at.auto.at-end) in
    of_fewer v (Below IsSyllableAt 11172) (IsOfArithmetic v) c.loop-at.first (λ d on. syllable_place d (and_parts (has_hangul version) (is_syllable d) on).1)
    (subst (λ n. IsFirstOf v (Below IsSyllableAt n) c.loop-at.first) all c.loop-at.invariant)
