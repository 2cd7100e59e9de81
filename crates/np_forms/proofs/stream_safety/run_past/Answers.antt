use Rattle.np_forms.proofs.StreamSafeLemmas.{over_answers}
use Rattle.std.proofs.Common.{arith, rules}
use Rattle.np_forms.proofs.stream_safety.run_past.Goals as goal

pub returns-then-class-eq0-clause-over : goal.returns-then-class-eq0-clause-over
returns-then-class-eq0-clause-over c = grind (arith, over_answers)

pub returns-else-class-eq0-clause-few : goal.returns-else-class-eq0-clause-few
returns-else-class-eq0-clause-few c = search rules
