use Rattle.std.proofs.Common.{arith, refl, subst}
use Rattle.std.proofs.lemmas.Result.{IfOk-weaker}
use Rattle.np_world.specs.Calls.{CallsTake}
use Rattle.np_world.specs.inside.Views.{bytes_of, stage_of}
use Rattle.np_world.proofs.DoneLemmas.{bytes_at, bytes_past}
use Rattle.np_world.proofs.SentLemmas.{match-none, match-some}
use Rattle.np_world.proofs.node_steps.deliver.Goals as goal

pub returns-then-message-len : goal.returns-then-message-len
returns-then-message-len g c = match-none (bytes_of c.args.sent.now.items) c.args.message (bytes_past c.args.sent.now.items c.args.message (omega arith)) _ _ (refl, refl)

pub returns : goal.returns
returns g c =
    let model = g.T.NormTable.model in
    let told = c.args.sent.now.items in
    let before = stage_of c.args.replay_node.now (bytes_of told) in
    let after = stage_of c.forge.new.replay_node (bytes_of told) in
    let found = bytes_at told c.args.message c.index.result.now (omega arith) c.index.ensures in
    IfOk-weaker _ _ _ (λ reply takes. match-some (bytes_of told) c.args.message c.index.result.now.items found _ (λ bytes. CallsTake model bytes before reply after)
    (subst (λ bytes. CallsTake model bytes before reply after) c.as_slice.ensures.value takes)) (c.forge.ensures (bytes_of told))
