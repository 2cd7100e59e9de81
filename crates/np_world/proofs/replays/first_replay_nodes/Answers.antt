use Rattle.std.proofs.Common.{ap, rules}
use Rattle.np_world.specs.inside.Views.{rules_of}
use Rattle.np_world.proofs.DoneLemmas.{placed_with}
use Rattle.np_world.proofs.PlayLemmas.{new-more, new-nothing}
use Rattle.np_world.proofs.replays.first_replay_nodes.Goals as goal

pub loop-start-init : goal.loop-start-init
loop-start-init g c = new-nothing g.T.NormTable.model (rules_of c.args.common.now) c.args.starts.now _ (search rules)

pub loop-start-preserved : goal.loop-start-preserved
loop-start-preserved g c =
    let rules = rules_of c.args.common.now in
    new-more g.T.NormTable.model rules c.args.starts.now c.loop-start.start-index c.loop-start.replay_nodes.items c.push.new.self.items _ c.at-table.result.now c.loop-start-test.true c.in_ok-push.ensures.items
    c.loop-start.invariant c.at-table.ensures.table (ap (placed_with _) c.new.ensures)
