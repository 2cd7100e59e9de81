use Rattle.std.proofs.Common.{sym}
use Rattle.std.proofs.lemmas.Bool.{both_ways}
use Rattle.np_code_points.proofs.HangulLemmas.{lv_of_pair, lvt_of_pair, no_syllable}
use Rattle.np_code_points.proofs.hangul.hangul_pair.Goals as goal
use Rattle.np_code_points.proofs.hangul.hangul_pair.Goals.{else-is_among-via-then-is_among+else-is_among-2, else-is_among-via-else-is_among, else-is_among-3-via-then-is_among-3+then-a-eq0+else-is_among-4, else-is_among-3-via-then-is_among-3+else-a-eq0, else-is_among-3-via-else-is_among-3}

pub returns-then-is_among-2-clause-parts : goal.returns-then-is_among-2-clause-parts
returns-then-is_among-2-clause-parts c =
    (lv_of_pair c.args.first c.args.second c.character.result (sym c.if-is_among.ensures) (sym c.if-is_among-2.ensures) c.character.ensures).1

pub returns-then-is_among-4-clause-parts : goal.returns-then-is_among-4-clause-parts
returns-then-is_among-4-clause-parts c =
    (lvt_of_pair c.args.first c.args.second c.character-then-is_among-4.result (sym c.if-is_among-3.ensures) c.if-a-eq0.true (sym c.if-is_among-4.ensures)
    c.character-then-is_among-4.ensures).1

pub returns-clause-none : goal.returns-clause-none
returns-clause-none c = no_syllable c.args.first c.args.second
    (λ leading vowel. elim c.else-is_among.branch [
      | else-is_among-via-then-is_among+else-is_among-2 w ↦ both_ways _ (sym w.if-is_among-2.ensures) vowel
      | else-is_among-via-else-is_among w ↦ both_ways _ (sym w.if-is_among.ensures) leading
    ])
    (λ syllable zero trailing. elim c.else-is_among-3.branch [
      | else-is_among-3-via-then-is_among-3+then-a-eq0+else-is_among-4 w ↦ both_ways _ (sym w.if-is_among-4.ensures) trailing
      | else-is_among-3-via-then-is_among-3+else-a-eq0 w ↦ w.if-a-eq0.false zero
      | else-is_among-3-via-else-is_among-3 w ↦ both_ways _ (sym w.if-is_among-3.ensures) syllable
    ])
