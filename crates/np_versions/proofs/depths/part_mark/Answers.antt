use Rattle.std.proofs.Common.{length, get_or, sym, ap, ◌∙◌, arith}
use Rattle.np_versions.proofs.Words.{and_parts, is_syllable, has_hangul}
use Rattle.np_versions.proofs.RoundLemmas.{length-row_marks, mark-bound, mark-none, mark-some}
use Rattle.np_versions.proofs.SyllableLemmas.{mark-syllable}
use Rattle.np_versions.proofs.depths.part_mark.Goals as goal

pub returns-then-is_composed-clause-value : goal.returns-then-is_composed-clause-value
returns-then-is_composed-clause-value c =
    let halves = and_parts (has_hangul _) (is_syllable c.args.code) (sym c.if-is_composed.ensures.on) in
    c.syllable_mark.ensures ∙ sym (mark-syllable _ c.requires.rows halves.0 c.args.round c.args.code halves.1)

pub returns-then-is_composed-clause-bound : goal.returns-then-is_composed-clause-bound
returns-then-is_composed-clause-bound c = omega (arith, returns-then-is_composed-clause-value c, mark-bound c.args.characters.now c.args.round c.args.code)

pub bounds-marks-at : goal.bounds-marks-at
bounds-marks-at c = omega (arith, ap length c.requires.marks ∙ length-row_marks c.args.characters.now c.args.round, c.in-Some.ensures.within)

pub returns-in-Some-clause-value : goal.returns-in-Some-clause-value
returns-in-Some-clause-value c =
    let told = c.in-Some.ensures in ap (λ l. get_or l c.in-Some.at 0) c.requires.marks
    ∙ mark-some _ c.requires.rows c.args.round c.args.code (sym c.if-is_composed.ensures.on) c.in-Some.at 0 told.within told.row

pub returns-in-Some-clause-bound : goal.returns-in-Some-clause-bound
returns-in-Some-clause-bound c = omega (arith, returns-in-Some-clause-value c, mark-bound c.args.characters.now c.args.round c.args.code)

pub returns-in-None-clause-value : goal.returns-in-None-clause-value
returns-in-None-clause-value c =
    let told = c.in-None.ensures in sym (mark-none c.args.characters.now c.requires.rows c.args.round c.args.code (sym c.if-is_composed.ensures.on) told.none)
