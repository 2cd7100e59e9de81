use Rattle.std.proofs.Common.{map, rules, ap, ◌∙◌}
use Rattle.np_code_points.specs.Lines.{Walk, numbered}
use Rattle.np_foldings.specs.FoldingValues.{folding_of}
use Rattle.np_foldings.proofs.FileLemmas.{taken_begin, taken_next, taken_here, taken_end}
use Rattle.np_foldings.proofs.data.take_lines.Goals as goal

pub loop-line-init : goal.loop-line-init
loop-line-init c =
    taken_begin (ap (λ (w : Walk). w.left) c.into_iter-line-iterator.ensures.into_iter_gives ∙ c.new-line-items.ensures.same) (ap (map folding_of) c.requires)

pub returns-in_err-before-clause-fault : goal.returns-in_err-before-clause-fault
returns-in_err-before-clause-fault c =
    taken_here (numbered c.in-Some.line) c.from_residual.result c.loop-line.invariant c.in-Some.ensures.steps.gives (search rules)

pub loop-line-preserved : goal.loop-line-preserved
loop-line-preserved c =
    taken_next (numbered c.in-Some.line) c.loop-line.invariant c.in-Some.ensures.steps.gives c.in_ok-before.ensures.next c.in_ok-before.ensures.grown

pub returns-clause-ok : goal.returns-clause-ok
returns-clause-ok c = taken_end c.loop-line.invariant c.in-None.ensures.steps.gives.0
