use Rattle.std.proofs.Common.{◌<◌, List, length, map, rules, subst, sym, take}
use Rattle.std.proofs.lemmas.List.{take_all}
use Rattle.np_schedules.specs.EventLines.{event_of}
use Rattle.np_schedules.specs.Events.{node_of}
use Rattle.np_schedules.specs.Schedules.{NamesVersion}
use Rattle.np_schedules.specs.declared.events.EventLine.{EventLine}
use Rattle.np_world.specs.inside.Played.{IsPlayed}
use Rattle.np_world.specs.inside.Views.{moment_of, rules_of}
use Rattle.np_world.proofs.PlayLemmas.{length-played, named_at, placed_in, played-more, played-nothing, version_at}
use Rattle.np_world.proofs.replays.run_events.Goals as goal

pub step_world-requires-clause-placed : goal.step_world-requires-clause-placed
step_world-requires-clause-placed g c =
    let i = c.loop-event.event-index in
    placed_in g.T.NormTable.model (rules_of c.args.common.now) c.histories.ensures.tables c.args.starts.now (map event_of (take i c.args.events.now)) c.loop-event.replies.items
    c.loop-event.replay_nodes c.loop-event.sent.items c.loop-event.invariant

pub step_world-requires-clause-room : goal.step_world-requires-clause-room
step_world-requires-clause-room g c = c.requires.rules.room

pub step_world-requires-clause-named : goal.step_world-requires-clause-named
step_world-requires-clause-named g c =
    let i = c.loop-event.event-index in
    let count = length-played g.T.NormTable.model (rules_of c.args.common.now) c.args.starts.now (map event_of (take i c.args.events.now)) c.loop-event.replies.items
    c.loop-event.replay_nodes c.loop-event.sent.items c.loop-event.invariant in
    let named = named_at (length c.args.starts.now) c.args.events.now i c.event-item.result c.requires.named c.loop-event-test.true in
    subst (λ n. node_of (event_of c.event-item.result) < n) (sym count) (subst (λ e. node_of (event_of e) < length c.args.starts.now) (sym c.event-item.is) named)

pub step_world-requires-clause-version : goal.step_world-requires-clause-version
step_world-requires-clause-version g c =
    let versions = length c.args.common.now.chain.now in
    subst (λ e. NamesVersion versions (event_of e)) (sym c.event-item.is)
    (version_at versions c.args.events.now c.loop-event.event-index c.event-item.result c.requires.versions c.loop-event-test.true)

pub loop-event-init : goal.loop-event-init
loop-event-init g c =
    played-nothing g.T.NormTable.model (rules_of c.args.common.now) c.args.starts.now _ _ _ c.requires.rules c.requires.new (search rules) (search rules)

pub loop-event-preserved : goal.loop-event-preserved
loop-event-preserved g c =
    played-more g.T.NormTable.model (rules_of c.args.common.now) c.args.starts.now c.args.events.now c.loop-event.event-index c.event-item.result c.loop-event.replies.items c.push.new.self.items
    c.loop-event.replay_nodes c.step_world.new.replay_nodes c.loop-event.sent.items c.step_world.new.sent.items c.in_ok-step_world.field-0
    c.loop-event-test.true c.in_ok-push.ensures.items c.event-item.is c.loop-event.invariant c.in_ok-step_world.ensures

pub returns : goal.returns
returns g c =
    let run = c.loop-event in
    subst (λ (events : List EventLine). IsPlayed g.T.NormTable.model (rules_of c.args.common.now) c.args.starts.now (map event_of events) run.replies.items (moment_of run.replay_nodes run.sent.items))
    (take_all run.event-index c.args.events.now c.loop-event-test.false) run.invariant
