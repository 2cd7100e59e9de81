use Rattle.std.proofs.Common.{arith}
use Rattle.std.proofs.lemmas.Grind.{common_steps}
use Rattle.np_versions.proofs.RowLemmas.{is_right-at, length-empty}
use Rattle.np_versions.proofs.hangul_rows.is_right.Goals as goal

pub returns-then-row-eq0 : goal.returns-then-row-eq0
returns-then-row-eq0 c =
    let at = is_right-at c.args.rows.now c.args.code _ c.in-Some.ensures.row in let none = length-empty c.in-Some.row.mapping.now in grind (arith, common_steps)

pub returns-else-row-eq0 : goal.returns-else-row-eq0
returns-else-row-eq0 c = let at = is_right-at c.args.rows.now c.args.code _ c.in-Some.ensures.row in grind (arith, common_steps)

pub returns-in-None : goal.returns-in-None
returns-in-None c = is_right-at c.args.rows.now c.args.code _ c.in-None.ensures.row
