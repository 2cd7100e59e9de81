use Rattle.std.proofs.Common.{◌≡◌, ◌<◌, true, false, ◌&&◌, length, sym, ◌∙◌, arith, eqb-true}
use Rattle.np_forms.proofs.Words.{eqb-false, and_left, and_right, is_syllable, has_hangul}
use Rattle.np_forms.proofs.SyllableLemmas.{lent_some, lent_none, full_of-syllable}
use Rattle.np_forms.proofs.stream_safety.run_past_full.Goals as goal
use Rattle.np_forms.proofs.stream_safety.run_past_full.Goals.{else-hangul-via-then-hangul+else-is_syllable, else-hangul-via-else-hangul}

pub returns-then-not-is_empty-clause-over : goal.returns-then-not-is_empty-clause-over
returns-then-not-is_empty-clause-over g c = λ rest.
    let some : 0 < length c.lent-full.result.now = omega (arith, eqb-false _ 0 (sym c.is_empty.ensures ∙ c.if-not-is_empty.true)) in
    rw (← lent_some _ _ _ _ c.lent-full.ensures some) (c.run_past_all.ensures.over rest)

pub returns-then-is_syllable-clause-over : goal.returns-then-is_syllable-clause-over
returns-then-is_syllable-clause-over g c = λ rest.
    let on = sym c.requires.hangul ∙ c.if-hangul.true in
    rw (full_of-syllable _ true c.requires.sound on c.args.c (sym c.is_syllable.ensures ∙ c.if-is_syllable.true)) (c.run_past_syllable.ensures.over rest)

pub returns-clause-over : goal.returns-clause-over
returns-clause-over g c = λ rest.
    let v = g.T.NormTable.model c.args.table.now in
    let plain : (has_hangul v && is_syllable c.args.c) ≡ false =
    elim c.else-hangul.branch [
      | else-hangul-via-then-hangul+else-is_syllable w ↦ and_right (has_hangul v) _ (sym w.is_syllable.ensures ∙ w.if-is_syllable.false)
      | else-hangul-via-else-hangul w ↦ and_left _ (is_syllable c.args.c) (sym c.requires.hangul ∙ w.if-hangul.false)
    ] in
    let none = eqb-true _ 0 (sym c.is_empty.ensures ∙ c.if-not-is_empty.false) in
    rw (lent_none _ _ c.requires.sound _ _ c.lent-full.ensures none plain) (c.run_past.ensures.over rest)
