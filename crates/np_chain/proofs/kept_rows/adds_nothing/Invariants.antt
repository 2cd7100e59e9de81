use Rattle.std.specs.List.{AllWithin}
use Rattle.np_chain.specs.inside.KeptRows.{AddsNoBreak}
use Rattle.np_chain.proofs.kept_rows.adds_nothing.Given as goal

abbrev pub invariant-loop-composite : goal.invariant-loop-composite
invariant-loop-composite l = AllWithin (λ x. AddsNoBreak l.old l.new x.code) l.composite-items 0 l.composite-index
