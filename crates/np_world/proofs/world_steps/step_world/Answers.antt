use Rattle.std.proofs.Common.{ap, sym, ◌∙◌, arith}
use Rattle.std.proofs.lemmas.Option.{slice_get_within}
use Rattle.std.specs.Prelude.{chars, string_bytes}
use Rattle.np_schedules.specs.EventLines.{event_of}
use Rattle.np_schedules.specs.Events.{Accept, Ask, Forge, Forget, node_of}
use Rattle.np_world.specs.inside.Views.{bytes_of, rules_of}
use Rattle.np_world.proofs.DoneLemmas.{done, ok_done, undone}
use Rattle.np_world.proofs.world_steps.step_world.Goals as goal

pub upgrade-requires : goal.upgrade-requires
upgrade-requires g c =
    let within = ap node_of (ap event_of c.in-Upgrade.is) in
    c.requires.placed c.in-Upgrade.node c.index-replay_nodes-node-in-Upgrade.result (omega (arith, c.requires.named, within))

pub restart-requires-clause-within : goal.restart-requires-clause-within
restart-requires-clause-within g c =
    let within = ap node_of (ap event_of c.in-Restart.is) in
    let here = c.requires.placed c.in-Restart.node c.index-replay_nodes-node-in-Restart.result (omega (arith, c.requires.named, within)) in
    slice_get_within _ _ _ here

pub restart-requires-in-RestartUnder-clause-within : goal.restart-requires-in-RestartUnder-clause-within
restart-requires-in-RestartUnder-clause-within g c = c.requires.version c.in-RestartUnder.node c.in-RestartUnder.version (ap event_of c.in-RestartUnder.is)

pub returns-in-Accept : goal.returns-in-Accept
returns-in-Accept g c =
    ok_done g.T.NormTable.model (rules_of c.args.common.now) c.args.replay_nodes.now c.args.sent.now.items c.accept.new.sent.items
    (ap event_of c.in-Accept.is ∙ ap (λ b. Accept c.in-Accept.node (chars b)) (sym c.as_str.ensures.value)) c.requires.named
    c.index-replay_nodes-node.result c.accept.new.replay_node c.accept.result c.accept.ensures

pub returns-in-Deliver : goal.returns-in-Deliver
returns-in-Deliver g c =
    ok_done g.T.NormTable.model (rules_of c.args.common.now) c.args.replay_nodes.now c.args.sent.now.items c.args.sent.now.items (ap event_of c.in-Deliver.is) c.requires.named
    c.index-replay_nodes-node-in-Deliver.result c.deliver.new.replay_node c.deliver.result c.deliver.ensures

pub returns-in-Save : goal.returns-in-Save
returns-in-Save g c =
    ok_done g.T.NormTable.model (rules_of c.args.common.now) c.args.replay_nodes.now c.args.sent.now.items c.args.sent.now.items (ap event_of c.in-Save.is) c.requires.named
    c.index-replay_nodes-node-in-Save.result c.save.new.replay_node c.save.result (c.save.ensures (bytes_of c.args.sent.now.items))

pub returns-in-Restart : goal.returns-in-Restart
returns-in-Restart g c =
    ok_done g.T.NormTable.model (rules_of c.args.common.now) c.args.replay_nodes.now c.args.sent.now.items c.args.sent.now.items (ap event_of c.in-Restart.is) c.requires.named
    c.index-replay_nodes-node-in-Restart.result c.restart.new.replay_node c.restart.result (c.restart.ensures (bytes_of c.args.sent.now.items))

pub returns-in-RestartUnder : goal.returns-in-RestartUnder
returns-in-RestartUnder g c =
    ok_done g.T.NormTable.model (rules_of c.args.common.now) c.args.replay_nodes.now c.args.sent.now.items c.args.sent.now.items (ap event_of c.in-RestartUnder.is) c.requires.named
    c.index-replay_nodes-node-in-RestartUnder.result c.restart-in-RestartUnder.new.replay_node c.restart-in-RestartUnder.result (c.restart-in-RestartUnder.ensures (bytes_of c.args.sent.now.items))

pub returns-in-Upgrade : goal.returns-in-Upgrade
returns-in-Upgrade g c =
    done g.T.NormTable.model (rules_of c.args.common.now) c.args.replay_nodes.now c.args.sent.now.items c.args.sent.now.items (ap event_of c.in-Upgrade.is) c.requires.named
    c.index-replay_nodes-node-in-Upgrade.result c.upgrade.new.replay_node c.upgrade.result (c.upgrade.ensures (bytes_of c.args.sent.now.items))

pub returns-in-Ask : goal.returns-in-Ask
returns-in-Ask g c =
    let same = ap event_of c.in-Ask.is ∙ ap (λ b. Ask c.in-Ask.node (chars b) (chars (string_bytes c.in-Ask.right))) (sym c.as_str-in-Ask.ensures.value)
    ∙ ap (λ b. Ask c.in-Ask.node (chars c.as_str-in-Ask.result.now) (chars b)) (sym c.as_str-in-Ask-2.ensures.value) in
    undone g.T.NormTable.model (rules_of c.args.common.now) c.args.replay_nodes.now c.args.sent.now.items same c.requires.named
    c.index-replay_nodes-node-in-Ask.result c.ask.result (c.ask.ensures (bytes_of c.args.sent.now.items))

pub returns-in-Forge : goal.returns-in-Forge
returns-in-Forge g c =
    ok_done g.T.NormTable.model (rules_of c.args.common.now) c.args.replay_nodes.now c.args.sent.now.items c.args.sent.now.items
    (ap event_of c.in-Forge.is ∙ ap (Forge c.in-Forge.node) (sym c.as_slice.ensures.value)) c.requires.named
    c.index-replay_nodes-node-in-Forge.result c.forge.new.replay_node c.forge.result (c.forge.ensures (bytes_of c.args.sent.now.items))

pub returns-in-Forget : goal.returns-in-Forget
returns-in-Forget g c =
    done g.T.NormTable.model (rules_of c.args.common.now) c.args.replay_nodes.now c.args.sent.now.items c.args.sent.now.items
    (ap event_of c.in-Forget.is ∙ ap (λ b. Forget c.in-Forget.node (chars b)) (sym c.as_str-in-Forget.ensures.value)) c.requires.named
    c.index-replay_nodes-node-in-Forget.result c.forget.new.replay_node c.forget.result (c.forget.ensures (bytes_of c.args.sent.now.items))
