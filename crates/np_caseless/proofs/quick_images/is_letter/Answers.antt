use Rattle.std.proofs.Common.{◌≡◌, ◌&&◌, false, sym, ap, ◌∙◌}
use Rattle.std.proofs.lemmas.Bool.{and_left, and_right}
use Rattle.np_code_points.specs.Hangul.{is_syllable}
use Rattle.np_versions.specs.Versions.{has_hangul}
use Rattle.np_caseless.proofs.ImageLemmas.{lent_none}
use Rattle.np_caseless.proofs.quick_images.is_letter.Goals as goal
use Rattle.np_caseless.proofs.quick_images.is_letter.Goals.{else-hangul-via-then-hangul+else-is_syllable, else-hangul-via-else-hangul}

pub returns-clause-unmapped : goal.returns-clause-unmapped
returns-clause-unmapped g c = λ yes.
    let version = g.T.NormTable.model c.args.table.now in
    let plain : (has_hangul version && is_syllable c.args.code) ≡ false =
    elim c.else-hangul.branch [
      | else-hangul-via-then-hangul+else-is_syllable w ↦
          and_right (has_hangul version) (is_syllable c.args.code) (ap is_syllable (sym w.from.ensures) ∙ sym w.is_syllable.ensures ∙ w.if-is_syllable.false)
      | else-hangul-via-else-hangul w ↦ and_left (has_hangul version) (is_syllable c.args.code) (sym c.hangul.ensures ∙ w.if-hangul.false)
    ] in
    lent_none version c.meets_conditions.ensures false c.args.code c.full.result.now c.full.ensures plain c.is_empty.result c.is_empty.ensures yes
