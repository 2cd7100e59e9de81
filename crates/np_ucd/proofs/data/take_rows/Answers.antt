use Rattle.std.proofs.Common.{Some, rules, inr, sym, ap, ◌∙◌}
use Rattle.np_code_points.specs.Lines.{Walk, numbered}
use Rattle.np_ucd.proofs.DataLemmas.{taken_begin, taken_next, taken_here, fault_end, rows_end}
use Rattle.np_ucd.proofs.data.take_rows.Goals as goal

pub loop-line-init : goal.loop-line-init
loop-line-init c =
    taken_begin (ap (λ (w : Walk). w.left) c.into_iter-line-iterator.ensures.into_iter_gives ∙ c.new-line-items.ensures.same) c.requires

pub returns-in_err-take_record-clause-fault : goal.returns-in_err-take_record-clause-fault
returns-in_err-take_record-clause-fault c =
    taken_here (numbered c.in-Some.line) c.from_residual.result c.loop-line.invariant c.in-Some.ensures.steps.gives (search rules)

pub loop-line-preserved : goal.loop-line-preserved
loop-line-preserved c =
    taken_next (numbered c.in-Some.line) c.loop-line.invariant c.in-Some.ensures.steps.gives
    c.in_ok-take_record.ensures.fine (ap Some c.in_ok-take_record.ensures.next) c.in_ok-take_record.ensures.rows

pub returns-in-Some-open_range-clause-fault : goal.returns-in-Some-open_range-clause-fault
returns-in-Some-open_range-clause-fault c =
    inr (fault_end c.loop-line.invariant c.in-None.ensures.steps.gives.0 ∙ sym c.open_range.ensures ∙ c.in-Some-open_range.is)

pub returns-in-None-open_range-clause-fine : goal.returns-in-None-open_range-clause-fine
returns-in-None-open_range-clause-fine c =
    fault_end c.loop-line.invariant c.in-None.ensures.steps.gives.0 ∙ sym c.open_range.ensures ∙ c.in-None-open_range.is

pub returns-in-None-open_range-clause-rows : goal.returns-in-None-open_range-clause-rows
returns-in-None-open_range-clause-rows c = rows_end c.loop-line.invariant c.in-None.ensures.steps.gives.0
