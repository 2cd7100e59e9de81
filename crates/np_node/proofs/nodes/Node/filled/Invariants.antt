use Rattle.np_node.specs.inside.Shapes.{IsFilling}
use Rattle.np_node.proofs.nodes.Node.filled.Given as goal

abbrev pub invariant-loop-number : goal.invariant-loop-number
invariant-loop-number g l = IsFilling g.T.NormTable.model l.fn.self l.self l.image l.head.needs l.head.count l.fields l.number
