use Rattle.std.proofs.Common.{option_map}
use Rattle.np_ucd.specs.inside.RecordValues.{neighbour_value}
use Rattle.np_ucd.proofs.DataLemmas.{AreTaken}
use Rattle.np_ucd.proofs.data.take_rows.Given as goal

abbrev pub invariant-loop-line : goal.invariant-loop-line
invariant-loop-line l = AreTaken l.bytes (option_map neighbour_value l.before) l.line-iterator.left l.rows
