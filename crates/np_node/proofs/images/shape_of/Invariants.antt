use Rattle.np_node.specs.inside.Shapes.{HasRead}
use Rattle.np_node.proofs.images.shape_of.Given as goal

abbrev pub invariant-loop-number : goal.invariant-loop-number
invariant-loop-number l = HasRead l.bytes l.fields l.head.needs l.head.form l.head.count l._number
