use Rattle.std.proofs.Common.{ℕ}
use Rattle.np_caseless.specs.inside.FirstFaults.{Below, IsSyllableAt}
use Rattle.np_caseless.specs.inside.ImageTables.{IsLessMarked, IsUnmarked}
use Rattle.np_caseless.proofs.image_tables.clear_syllables.Given as goal

abbrev pub invariant-loop-at : goal.invariant-loop-at
invariant-loop-at g l = IsLessMarked l.initial.own.items l.own.items × ((c : ℕ) → Below IsSyllableAt l.at c → IsUnmarked l.own.items c)
