use Rattle.np_code_points.proofs.HangulLemmas.{lv_parts, lvt_parts}
use Rattle.np_code_points.proofs.hangul.hangul_parts.Goals as goal

pub returns-then-trailing-eq0-clause-parts : goal.returns-then-trailing-eq0-clause-parts
returns-then-trailing-eq0-clause-parts c =
    lv_parts c.args.syllable c.character-leading.result c.character-vowel.result c.if-trailing-eq0.true c.character-leading.ensures c.character-vowel.ensures

pub returns-else-trailing-eq0-clause-parts : goal.returns-else-trailing-eq0-clause-parts
returns-else-trailing-eq0-clause-parts c =
    lvt_parts c.args.syllable c.character.result c.character-else-trailing-eq0.result c.if-trailing-eq0.false c.character.ensures c.character-else-trailing-eq0.ensures
