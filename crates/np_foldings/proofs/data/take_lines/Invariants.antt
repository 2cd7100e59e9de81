use Rattle.std.proofs.Common.{map}
use Rattle.np_foldings.specs.FoldingValues.{folding_of}
use Rattle.np_foldings.proofs.FileLemmas.{AreTaken}
use Rattle.np_foldings.proofs.data.take_lines.Given as goal

abbrev pub invariant-loop-line : goal.invariant-loop-line
invariant-loop-line l = AreTaken l.bytes l.before l.line-iterator.left (map folding_of l.foldings.items)
