use Rattle.std.proofs.Common.{inr, refl, sym, subst, ◌∙◌}
use Rattle.std.proofs.lemmas.List.{length-map}
use Rattle.std.proofs.lemmas.Result.{err_from_is_err_and}
use Rattle.np_jobs.specs.Streams.{stream_of}
use Rattle.np_program.specs.Replays.{LacksSchedule, WasScheduled}
use Rattle.np_program.proofs.ReplayLemmas.{schedule_takes_memory}
use Rattle.np_program.proofs.replay.made_over_chain.Goals as goal

pub returns-in_err-schedule-clause-refused : goal.returns-in_err-schedule-clause-refused
returns-in_err-schedule-clause-refused g c =
    let schedule_file = stream_of g.F.Read.remaining c.args.schedule_file.now c.schedule_in.new.schedule_file in
    let count = c.len.ensures.count ∙ sym (length-map c.args.chain.now g.T.NormTable.model) in
    let p = err_from_is_err_and c.from_residual.result c.from_residual.ensures.1 in
    rw (p.1, p.2) (subst (λ n. LacksSchedule schedule_file n c.in_err-schedule.field-0.0) count c.in_err-schedule.ensures.refused)

pub returns-clause-refused : goal.returns-clause-refused
returns-clause-refused g c =
    let scheduled = c.in_ok-schedule.ensures.scheduled in
    inr (scheduled.script, scheduled.read, inr (refl, schedule_takes_memory scheduled.script c.in_ok-schedule.schedule scheduled.says))

pub report_of-requires-clause-versions : goal.report_of-requires-clause-versions
report_of-requires-clause-versions g c = c.in_ok-schedule.ensures.scheduled.over ∙ c.len.ensures.count

pub returns-in-Ok-clause-made : goal.returns-in-Ok-clause-made
returns-in-Ok-clause-made g c =
    let schedule_file = stream_of g.F.Read.remaining c.args.schedule_file.now c.schedule_in.new.schedule_file in
    let count = c.len.ensures.count ∙ sym (length-map c.args.chain.now g.T.NormTable.model) in
    record {
      chain = c.meets_conditions.ensures.chain;
      schedule = c.in_ok-schedule.schedule;
      scheduled = subst (λ n. WasScheduled schedule_file n c.in_ok-schedule.schedule) count c.in_ok-schedule.ensures.scheduled;
      is = c.in-Ok.ensures;
      done = refl;
    }
