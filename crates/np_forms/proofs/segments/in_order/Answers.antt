use Rattle.np_forms.proofs.ShortLemmas.{short_answers}
use Rattle.std.proofs.Common.{arith}
use Rattle.np_forms.proofs.segments.in_order.Goals as goal

pub returns-then-later-class-clause-order : goal.returns-then-later-class-clause-order
returns-then-later-class-clause-order c = grind (arith, short_answers)
