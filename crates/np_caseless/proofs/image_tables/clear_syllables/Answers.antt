use Rattle.std.proofs.Common.{◌≡◌, ◌∙◌, sym, subst, arith}
use Rattle.std.proofs.lemmas.Bool.{and_parts, both_ways}
use Rattle.np_code_points.specs.Hangul.{is_syllable}
use Rattle.np_versions.specs.Versions.{has_hangul}
use Rattle.np_caseless.specs.Folded.{folded_by}
use Rattle.np_caseless.specs.inside.FirstFaults.{Below, IsSyllableAt}
use Rattle.np_caseless.proofs.FirstLemmas.{syllable_place}
use Rattle.np_caseless.proofs.ImageTableLemmas.{syllable_own}
use Rattle.np_caseless.proofs.image_tables.clear_syllables.Goals as goal
use Rattle.np_caseless.proofs.image_tables.clear_syllables.Goals.{then-not-hangul-via-then-not-hangul, then-not-hangul-via-else-not-hangul+then-is_hangul_quiet}

pub returns-then-not-hangul-clause-told : goal.returns-then-not-hangul-clause-told
returns-then-not-hangul-clause-told g c = λ compat d on marked.
    let version = g.T.NormTable.model c.args.table.now in
    let both = and_parts (has_hangul version) (is_syllable d) on in
    elim c.then-not-hangul.branch [
      | then-not-hangul-via-then-not-hangul w ↦ absurd (both_ways (has_hangul version) (sym c.hangul.ensures ∙ w.if-not-hangul.true) both.0)
      | then-not-hangul-via-else-not-hangul+then-is_hangul_quiet w ↦
          syllable_own (folded_by version c.args.foldings.now) c.meets_conditions.ensures both.0 (w.is_hangul_quiet.ensures w.if-is_hangul_quiet.true) compat d both.1
    ]

pub returns-clause-told : goal.returns-clause-told
returns-clause-told g c = λ compat d on marked.
    let version = g.T.NormTable.model c.args.table.now in
    let all : c.loop-at.at ≡ 11172 = omega (arith, c.loop-at-test.false, c.loop-at.auto.at-end) in
    absurd (c.loop-at.invariant.1 d (subst (λ n. Below IsSyllableAt n d) (sym all) (syllable_place d (and_parts (has_hangul version) (is_syllable d) on).1)) marked)
