use Rattle.std.proofs.Common.{take, map}
use Rattle.np_schedules.specs.EventLines.{event_of}
use Rattle.np_world.specs.inside.Played.{IsPlayed}
use Rattle.np_world.specs.inside.Views.{moment_of, rules_of}
use Rattle.np_world.proofs.replays.run_events.Given as goal

abbrev pub invariant-loop-event : goal.invariant-loop-event
invariant-loop-event g l =
    IsPlayed g.T.NormTable.model (rules_of l.common) l.starts (map event_of (take l.event-index l.events)) l.replies.items (moment_of l.replay_nodes l.sent.items)
