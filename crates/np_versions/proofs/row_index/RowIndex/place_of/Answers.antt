use Rattle.np_versions.proofs.RowLemmas.{past_code_points}
use Rattle.np_versions.proofs.row_index.RowIndex.place_of.Goals as goal

pub returns-then-code-ge-CODE_POINTS-clause-none : goal.returns-then-code-ge-CODE_POINTS-clause-none
returns-then-code-ge-CODE_POINTS-clause-none c = rw (← c.self.view_is) (past_code_points _ _ c.self.invariant.rows c.if-code-ge-CODE_POINTS.true)
