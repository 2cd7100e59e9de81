use Rattle.std.proofs.Common.{◌≡◌, length}
use Rattle.np_code_points.proofs.ValueGrammar.{joined}
use Rattle.np_schedules.specs.inside.LineValues.{hex_pairs}
use Rattle.np_schedules.proofs.reading.payloads.bytes_of.Given as goal

abbrev pub invariant-loop-left : goal.invariant-loop-left
invariant-loop-left l = hex_pairs l.fn.word ≡ joined l.bytes.items (hex_pairs l.left)

abbrev pub decreases-loop-left : goal.decreases-loop-left
decreases-loop-left l = length l.left
