use Rattle.std.proofs.Common.{◌≡◌, IfErr, length, map, rules, arith, sym, subst}
use Rattle.std.proofs.lemmas.Result.{IfErr-weaker}
use Rattle.np_schedules.specs.ScheduleFiles.{AreEventLines, NamesLine, SaysSchedule}
use Rattle.np_schedules.specs.ScheduleLines.{IsNodesLine, IsRoomLine}
use Rattle.np_schedules.specs.EventLines.{event_of}
use Rattle.np_schedules.specs.inside.Rust.{schedule_data}
use Rattle.np_schedules.specs.inside.ScheduleReading.{NamesNext, NextRefuses, NamesUnfit}
use Rattle.np_schedules.proofs.ScheduleLemmas.{begins, few_in_total, room_refused, starts_refused, events_refused, says_schedule, is_standable}
use Rattle.np_schedules.proofs.reading.read_schedule.Goals as goal

pub read_room-requires : goal.read_room-requires
read_room-requires c =
    let few = few_in_total c.args.bytes.now c.new-lines.result (begins c.args.bytes.now c.new-lines.result c.lines.ensures c.new-lines.ensures.lines c.new-lines.ensures.total) in
    omega (arith, few)

pub returns-in_err-room-clause-refused : goal.returns-in_err-room-clause-refused
returns-in_err-room-clause-refused c =
    let start = begins c.args.bytes.now c.new-lines.result c.lines.ensures c.new-lines.ensures.lines c.new-lines.ensures.total in
    let here : IfErr c.from_residual.result (NamesNext IsRoomLine c.new-lines.result) = search rules in
    IfErr-weaker c.from_residual.result (NamesNext IsRoomLine c.new-lines.result) (NamesLine c.args.bytes.now c.args.versions)
    (λ e. room_refused c.args.bytes.now c.args.versions c.new-lines.result e start)
    here

pub read_starts-requires : goal.read_starts-requires
read_starts-requires c =
    let few = few_in_total c.args.bytes.now c.new-lines.result (begins c.args.bytes.now c.new-lines.result c.lines.ensures c.new-lines.ensures.lines c.new-lines.ensures.total) in
    let same = c.in_ok-room.ensures.room.total in
    omega (arith, few, same)

pub returns-in_err-starts-clause-refused : goal.returns-in_err-starts-clause-refused
returns-in_err-starts-clause-refused c =
    let start = begins c.args.bytes.now c.new-lines.result c.lines.ensures c.new-lines.ensures.lines c.new-lines.ensures.total in
    let says = IsNodesLine c.args.versions in
    let here : IfErr c.from_residual-in_err-starts.result (NextRefuses says c.read_room.new.lines) = search rules in
    IfErr-weaker c.from_residual-in_err-starts.result (NextRefuses says c.read_room.new.lines) (NamesLine c.args.bytes.now c.args.versions)
    (λ e. starts_refused c.args.bytes.now c.args.versions c.new-lines.result c.read_room.new.lines c.in_ok-room.room e start c.in_ok-room.ensures.room)
    here

pub returns-in_err-events-clause-refused : goal.returns-in_err-events-clause-refused
returns-in_err-events-clause-refused c =
    let start = begins c.args.bytes.now c.new-lines.result c.lines.ensures c.new-lines.ensures.lines c.new-lines.ensures.total in
    let nodes : c.len.result ≡ length c.in_ok-starts.starts.items = search rules in
    let left = c.read_starts.new.lines.left in
    let here : IfErr c.from_residual-in_err-events.result (NamesUnfit c.args.versions c.len.result left) = search rules in
    IfErr-weaker c.from_residual-in_err-events.result (NamesUnfit c.args.versions c.len.result left) (NamesLine c.args.bytes.now c.args.versions)
    (λ e unfit. events_refused c.args.bytes.now c.args.versions c.new-lines.result c.read_room.new.lines c.read_starts.new.lines
    c.in_ok-room.room c.in_ok-starts.starts.items e start c.in_ok-room.ensures.room c.in_ok-starts.ensures.starts
    (subst (λ n. NamesUnfit c.args.versions n left e) nodes unfit))
    here

pub new-requires : goal.new-requires
new-requires c =
    let nodes : c.len.result ≡ length c.in_ok-starts.starts.items = search rules in
    let events = map event_of c.in_ok-events.events.items in
    is_standable c.new-lines.result c.read_room.new.lines c.read_starts.new.lines
    (schedule_data c.args.versions c.in_ok-room.room c.in_ok-starts.starts.items c.in_ok-events.events.items)
    c.in_ok-room.ensures.room c.in_ok-starts.ensures.starts
    (subst (λ n. AreEventLines c.args.versions n c.read_starts.new.lines.left events) nodes c.in_ok-events.ensures.events)

pub returns-clause-schedule : goal.returns-clause-schedule
returns-clause-schedule c =
    let start = begins c.args.bytes.now c.new-lines.result c.lines.ensures c.new-lines.ensures.lines c.new-lines.ensures.total in
    let nodes : c.len.result ≡ length c.in_ok-starts.starts.items = search rules in
    let events = map event_of c.in_ok-events.events.items in
    subst (SaysSchedule c.args.bytes.now) (sym c.new.ensures)
    (says_schedule c.args.bytes.now c.new-lines.result c.read_room.new.lines c.read_starts.new.lines
    (schedule_data c.args.versions c.in_ok-room.room c.in_ok-starts.starts.items c.in_ok-events.events.items)
    start c.in_ok-room.ensures.room c.in_ok-starts.ensures.starts
    (subst (λ n. AreEventLines c.args.versions n c.read_starts.new.lines.left events) nodes c.in_ok-events.ensures.events))
