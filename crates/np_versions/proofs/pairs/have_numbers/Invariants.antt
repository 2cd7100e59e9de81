use Rattle.std.proofs.Common.{◌<◌, get_or}
use Rattle.np_versions.proofs.Words.{AllWithin, slot_at}
use Rattle.np_versions.proofs.pairs.have_numbers.Given as goal

abbrev pub invariant-loop-composite : goal.invariant-loop-composite
invariant-loop-composite l = AllWithin (λ x. 0 < get_or l.slots (slot_at x.first x.second) 0) l.composites 0 l.composite-index
