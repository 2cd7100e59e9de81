use Rattle.std.proofs.Common.{ℕ}
use Rattle.np_caseless.specs.Folded.{folded_by}
use Rattle.np_caseless.specs.inside.FirstFaults.{Below, IsCodeAt}
use Rattle.np_caseless.specs.inside.ImageTables.{AreKnown, IsLessMarked, IsTold}
use Rattle.np_caseless.proofs.image_tables.of_rows.Given as goal

abbrev pub invariant-loop-code : goal.invariant-loop-code
invariant-loop-code g l =
    AreKnown (folded_by (g.T.NormTable.model l.table) l.foldings) l.compat l.list.items
    × (IsLessMarked l.initial.own.items l.own.items
    × ((c : ℕ) → Below (IsCodeAt l.codes) l.code-index c → IsTold (folded_by (g.T.NormTable.model l.table) l.foldings) l.compat l.own.items c))
