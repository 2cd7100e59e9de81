use Rattle.std.proofs.Common.{map, take}
use Rattle.np_world.specs.Moments.{AreNewAt}
use Rattle.np_world.specs.inside.Views.{placed_of, rules_of}
use Rattle.np_world.proofs.replays.first_replay_nodes.Given as goal

abbrev pub invariant-loop-start : goal.invariant-loop-start
invariant-loop-start g l = AreNewAt (rules_of l.common) (take l.start-index l.starts) (map placed_of l.replay_nodes.items)
