use Rattle.std.proofs.Common.{◌≡◌, ◌++◌, ◌∷◌, [], false, ◌&&◌, sym, ap, ◌∙◌, arith, eqb-true}
use Rattle.np_forms.proofs.Words.{eqb-false, and_left, and_right, is_syllable, has_hangul, with_classes}
use Rattle.np_forms.proofs.SyllableLemmas.{lent_some, lent_none, full_of-syllable}
use Rattle.np_forms.proofs.decomposing.append.Goals as goal
use Rattle.np_forms.proofs.decomposing.append.Goals.{else-hangul-via-then-hangul+else-is_syllable, else-hangul-via-else-hangul}

pub returns-then-not-is_empty : goal.returns-then-not-is_empty
returns-then-not-is_empty g c =
    rw (← lent_some _ _ _ _ c.lent-full.ensures (omega (arith, eqb-false _ 0 (sym c.is_empty.ensures ∙ c.if-not-is_empty.true)))) c.push_classed.ensures

pub returns-then-is_syllable : goal.returns-then-is_syllable
returns-then-is_syllable g c =
    let on = sym c.requires.hangul ∙ c.if-hangul.true in
    rw (full_of-syllable _ c.args.compat c.requires.sound on c.args.c (sym c.is_syllable.ensures ∙ c.if-is_syllable.true)) c.append_syllable.ensures

pub returns : goal.returns
returns g c =
    let v = g.T.NormTable.model c.args.table.now in
    let plain : (has_hangul v && is_syllable c.args.c) ≡ false =
    elim c.else-hangul.branch [
      | else-hangul-via-then-hangul+else-is_syllable w ↦ and_right (has_hangul v) _ (sym w.is_syllable.ensures ∙ w.if-is_syllable.false)
      | else-hangul-via-else-hangul w ↦ and_left _ (is_syllable c.args.c) (sym c.requires.hangul ∙ w.if-hangul.false)
    ] in
    let full = lent_none _ _ c.requires.sound _ _ c.lent-full.ensures (eqb-true _ 0 (sym c.is_empty.ensures ∙ c.if-not-is_empty.false)) plain in
    c.in_ok-push.ensures.items ∙ ap (λ x. c.args.list.now.items ++ x ∷ []) c.with_class.ensures ∙ ap (λ l. c.args.list.now.items ++ with_classes v l) (sym full)
