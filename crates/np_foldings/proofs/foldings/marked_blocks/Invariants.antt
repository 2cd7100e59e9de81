use Rattle.std.proofs.Common.{ℕ, ◌<◌, get_or, length}
use Rattle.np_foldings.specs.declared.foldings as code
use Rattle.np_foldings.specs.inside.Blocks.{IsMarked}
use Rattle.np_foldings.proofs.foldings.marked_blocks.Given as goal

abbrev pub invariant-loop-at : goal.invariant-loop-at
invariant-loop-at l =
    (k : ℕ) (d : code.Folding.Folding) → k < l.at → k < length l.foldings → IsMarked l.blocks.items (get_or l.foldings k d).code
