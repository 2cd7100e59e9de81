use Rattle.std.proofs.Common.{arith}
use Rattle.np_world.proofs.PlayLemmas.{of_replayed}
use Rattle.np_world.proofs.replays.replay.Goals as goal

pub play-requires-clause-rules : goal.play-requires-clause-rules
play-requires-clause-rules g c = record { chain = c.meets_conditions.ensures; room = omega (arith, c.room-room.ensures.room, c.room-room.ensures.stands.room) }

pub returns-clause-run : goal.returns-clause-run
returns-clause-run g c = of_replayed c.args.schedule.now _ _ c.histories.ensures.tables c.play.ensures (λ report tells. tells.run)

pub returns-clause-replies : goal.returns-clause-replies
returns-clause-replies g c = of_replayed c.args.schedule.now _ _ c.histories.ensures.tables c.play.ensures (λ report tells. tells.replies)

pub returns-clause-indices : goal.returns-clause-indices
returns-clause-indices g c = of_replayed c.args.schedule.now _ _ c.histories.ensures.tables c.play.ensures (λ report tells. tells.indices)

pub returns-clause-strings : goal.returns-clause-strings
returns-clause-strings g c = of_replayed c.args.schedule.now _ _ c.histories.ensures.tables c.play.ensures (λ report tells. tells.strings)

pub returns-clause-keys : goal.returns-clause-keys
returns-clause-keys g c = of_replayed c.args.schedule.now _ _ c.histories.ensures.tables c.play.ensures (λ report tells. tells.keys)

pub returns-clause-nodes : goal.returns-clause-nodes
returns-clause-nodes g c = of_replayed c.args.schedule.now _ _ c.histories.ensures.tables c.play.ensures (λ report tells. tells.nodes)

pub returns-clause-sent : goal.returns-clause-sent
returns-clause-sent g c = of_replayed c.args.schedule.now _ _ c.histories.ensures.tables c.play.ensures (λ report tells. tells.sent)

pub returns-clause-saved : goal.returns-clause-saved
returns-clause-saved g c = of_replayed c.args.schedule.now _ _ c.histories.ensures.tables c.play.ensures (λ report tells. tells.saved)

pub returns-clause-images : goal.returns-clause-images
returns-clause-images g c = of_replayed c.args.schedule.now _ _ c.histories.ensures.tables c.play.ensures (λ report tells. tells.images)

pub returns-clause-equivalence : goal.returns-clause-equivalence
returns-clause-equivalence g c = of_replayed c.args.schedule.now _ _ c.histories.ensures.tables c.play.ensures (λ report tells. tells.equivalence)

pub returns-clause-alike : goal.returns-clause-alike
returns-clause-alike g c = of_replayed c.args.schedule.now _ _ c.histories.ensures.tables c.play.ensures (λ report tells. tells.alike)
