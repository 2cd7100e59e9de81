use Rattle.np_caseless.specs.Folded.{folded_by}
use Rattle.np_caseless.specs.inside.FirstFaults.{Below, IsFirstOf, IsQuietCodeAt}
use Rattle.np_caseless.proofs.first_faults.first_of_mapped.Given as goal

abbrev pub invariant-loop-code : goal.invariant-loop-code
invariant-loop-code g l =
    IsFirstOf (folded_by (g.T.NormTable.model l.table) l.foldings)
    (Below (IsQuietCodeAt (folded_by (g.T.NormTable.model l.table) l.foldings) l.mapped) l.code-index) l.first
