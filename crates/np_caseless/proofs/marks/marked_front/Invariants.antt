use Rattle.std.proofs.Common.{◌-◌, length}
use Rattle.np_caseless.specs.inside.ImageTables.{IsMarkedUpTo}
use Rattle.np_caseless.proofs.marks.marked_front.Given as goal

abbrev pub invariant-codes : goal.invariant-codes
invariant-codes l = IsMarkedUpTo l.own l.bytes l.at

abbrev pub decreases-codes : goal.decreases-codes
decreases-codes l = length l.bytes - l.at
