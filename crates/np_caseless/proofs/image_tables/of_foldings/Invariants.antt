use Rattle.std.proofs.Common.{ℕ}
use Rattle.np_caseless.specs.Folded.{folded_by}
use Rattle.np_caseless.specs.inside.FirstFaults.{Below, IsFoldingAt}
use Rattle.np_caseless.specs.inside.ImageTables.{AreKnown, IsUnmarked}
use Rattle.np_caseless.proofs.image_tables.of_foldings.Given as goal

abbrev pub invariant-loop-at : goal.invariant-loop-at
invariant-loop-at g l =
    AreKnown (folded_by (g.T.NormTable.model l.table) l.foldings) l.compat l.list.items
    × ((c : ℕ) → Below (IsFoldingAt l.foldings) l.at c → IsUnmarked l.own.items c)
