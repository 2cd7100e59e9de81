use Rattle.std.proofs.Common.{Ok, Err, refl, sym, ◌∙◌}
use Rattle.np_world.specs.Calls.{CallsRestore}
use Rattle.np_world.specs.inside.Views.{rules_of, stage_of}
use Rattle.np_world.proofs.DoneLemmas.{if_told}
use Rattle.np_world.proofs.node_steps.restart.Goals as goal

pub returns-in-Ok : goal.returns-in-Ok
returns-in-Ok g c = λ sent. record { answer = Ok c.in-Ok.node; restores = c.in-Ok.ensures; leaves = (refl, refl) }

pub returns-in-Err : goal.returns-in-Err
returns-in-Err g c = λ sent.
    let here = stage_of c.args.replay_node.now sent in
    if_told c.refusal.result (λ reply. CallsRestore g.T.NormTable.model (rules_of c.args.common.now) c.args.place here reply here)
    (λ reply is. record { answer = Err c.in-Err.refused; restores = c.in-Err.ensures; leaves = (sym c.refusal.ensures ∙ is, refl) })
