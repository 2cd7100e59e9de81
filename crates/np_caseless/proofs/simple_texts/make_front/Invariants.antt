use Rattle.std.proofs.Common.{◌-◌, length}
use Rattle.np_caseless.specs.inside.SimpleTexts.{AreMade}
use Rattle.np_caseless.proofs.simple_texts.make_front.Given as goal

abbrev pub invariant-blocks-2 : goal.invariant-blocks-2
invariant-blocks-2 l = AreMade l.known l.text l.room l.front.count l.front.apart

abbrev pub decreases-blocks-2 : goal.decreases-blocks-2
decreases-blocks-2 l = length l.text - l.front.count
