use Rattle.std.proofs.Common.{List, ℕ, length}
use Rattle.std.specs.List.{All}
use Rattle.np_forms.specs.inside.Readings.{IsRead}
use Rattle.np_caseless.specs.inside.ImageTables.{IsMarked}
use Rattle.np_caseless.proofs.marks.behind_marked.Given as goal

abbrev pub invariant-scan : goal.invariant-scan
invariant-scan l = (front : List ℕ) × IsRead l.text l.rest front × All (IsMarked l.own) front

abbrev pub decreases-scan : goal.decreases-scan
decreases-scan l = length l.rest
