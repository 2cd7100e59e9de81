use Rattle.np_caseless.specs.inside.FirstFaults.{AreMappedBelow}
use Rattle.np_caseless.proofs.mapped_rows.mapped_codes.Given as goal

abbrev pub invariant-loop-at : goal.invariant-loop-at
invariant-loop-at g l = AreMappedBelow (g.T.NormTable.model l.table) l.at l.codes.items
