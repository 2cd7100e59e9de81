use Rattle.std.proofs.Common.{◌≡◌, All, IfSome, take}
use Rattle.np_examples_shared.proofs.told.want_told.Given as goal

abbrev pub invariant-loop-value : goal.invariant-loop-value
invariant-loop-value g l = All (λ row. IfSome (g.T.Display.output row.0) (λ told. row.1.now ≡ told)) (take l.value-index l.rows)
