use Rattle.std.proofs.Common.{◌≡◌, map, take}
use Rattle.np_ucd.specs.RowValues.{entry_of}
use Rattle.np_ucd.proofs.data.all_owned.Given as goal

abbrev pub invariant-loop-at : goal.invariant-loop-at
invariant-loop-at l = map entry_of l.rows.items ≡ take l.at l.kept
