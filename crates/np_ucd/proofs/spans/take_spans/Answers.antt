use Rattle.std.proofs.Common.{map, rules, ap, ◌∙◌}
use Rattle.np_code_points.specs.Lines.{Walk, numbered}
use Rattle.np_ucd.specs.inside.SpanValues.{span_of}
use Rattle.np_ucd.proofs.ExclusionLemmas.{taken_begin, taken_next, taken_here, fault_end, spans_end}
use Rattle.np_ucd.proofs.spans.take_spans.Goals as goal

pub loop-line-init : goal.loop-line-init
loop-line-init c =
    taken_begin (ap (λ (w : Walk). w.left) c.into_iter-line-iterator.ensures.into_iter_gives ∙ c.new-line-items.ensures.same) (ap (map span_of) c.requires)

pub returns-in_err-take_line-clause-fault : goal.returns-in_err-take_line-clause-fault
returns-in_err-take_line-clause-fault c =
    taken_here (numbered c.in-Some.line) c.from_residual.result c.loop-line.invariant c.in-Some.ensures.steps.gives (search rules)

pub loop-line-preserved : goal.loop-line-preserved
loop-line-preserved c =
    taken_next (numbered c.in-Some.line) c.loop-line.invariant c.in-Some.ensures.steps.gives c.in_ok-take_line.ensures.fine c.in_ok-take_line.ensures.spans

pub returns-clause-fine : goal.returns-clause-fine
returns-clause-fine c = fault_end c.loop-line.invariant c.in-None.ensures.steps.gives.0

pub returns-clause-spans : goal.returns-clause-spans
returns-clause-spans c = spans_end c.loop-line.invariant c.in-None.ensures.steps.gives.0
