use Rattle.np_foldings.proofs.LowercaseGrammar.{AreTaken}
use Rattle.np_foldings.proofs.lowercases.lowercases_of.Given as goal

abbrev pub invariant-loop-line : goal.invariant-loop-line
invariant-loop-line l = AreTaken l.bytes l.line-iterator.left l.pairs.items
