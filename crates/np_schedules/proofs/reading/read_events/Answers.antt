use Rattle.std.proofs.Common.{map, IfErr, rules, ap}
use Rattle.std.proofs.lemmas.Result.{IfErr-weaker}
use Rattle.np_code_points.specs.Lines.{Walk, numbered}
use Rattle.np_schedules.specs.EventLines.{event_of}
use Rattle.np_schedules.specs.inside.ScheduleReading.{AddsNone, NamesUnfit}
use Rattle.np_schedules.proofs.ScheduleLemmas.{begins_taking, takes_next, takes_all, names_unfit}
use Rattle.np_schedules.proofs.reading.read_events.Goals as goal

pub loop-line-init : goal.loop-line-init
loop-line-init c =
    begins_taking c.args.versions c.args.nodes c.args.lines.left c.into_iter-line-iterator.result.left (map event_of c.new-events.result.items)
    (ap (λ (w : Walk). w.left) c.into_iter-line-iterator.ensures.into_iter_gives) (ap (map event_of) c.new-events.ensures.items)

pub returns-in_err-take_event-clause-refused : goal.returns-in_err-take_event-clause-refused
returns-in_err-take_event-clause-refused c =
    let r = numbered c.in-Some.line in
    let old = map event_of c.loop-line.events.items in
    let here : IfErr c.from_residual.result (AddsNone c.args.versions c.args.nodes old r) = search rules in
    IfErr-weaker c.from_residual.result (AddsNone c.args.versions c.args.nodes old r) (NamesUnfit c.args.versions c.args.nodes c.args.lines.left)
    (λ e. names_unfit c.args.versions c.args.nodes c.args.lines.left c.loop-line.line-iterator.left c.next.new.self.left r old e
    c.loop-line.invariant c.in-Some.ensures.steps.gives)
    here

pub loop-line-preserved : goal.loop-line-preserved
loop-line-preserved c =
    takes_next c.args.versions c.args.nodes c.args.lines.left c.loop-line.line-iterator.left c.next.new.self.left (numbered c.in-Some.line)
    (map event_of c.loop-line.events.items) (map event_of c.take_event.new.events.items)
    c.loop-line.invariant c.in-Some.ensures.steps.gives c.in_ok-take_event.ensures.event

pub returns-clause-events : goal.returns-clause-events
returns-clause-events c =
    takes_all c.args.versions c.args.nodes c.args.lines.left c.loop-line.line-iterator.left (map event_of c.loop-line.events.items)
    c.loop-line.invariant c.in-None.ensures.steps.gives.0
