use Rattle.std.proofs.Common.{Ok, ap, refl, sym, ◌∙◌}
use Rattle.np_world.specs.Told.{reply_to}
use Rattle.np_world.specs.declared.replies.Reply.TheVariants.{Kept}
use Rattle.np_world.specs.inside.Views.{stage_of}
use Rattle.np_world.proofs.DoneLemmas.{takes}
use Rattle.np_world.proofs.node_steps.forge.Goals as goal

pub returns-in-Ok-Known : goal.returns-in-Ok-Known
returns-in-Ok-Known g c = λ sent.
    let old = c.args.replay_node.now in
    takes g.T.NormTable.model c.args.bytes.now (stage_of old sent) (stage_of (record old { node = c.take.new.self }) sent) _ c.take.result c.take.ensures.answer c.take.ensures.node
    (record { index = refl; image = refl }) refl (λ reply is. ap (reply_to Kept) (c.in-Ok-Known.is ∙ ap Ok c.in-Ok-Known.field-0-is) ∙ is)

pub returns-in-Ok-Kept : goal.returns-in-Ok-Kept
returns-in-Ok-Kept g c = λ sent.
    let old = c.args.replay_node.now in
    takes g.T.NormTable.model c.args.bytes.now (stage_of old sent) (stage_of (record old { node = c.take.new.self }) sent) _ c.take.result c.take.ensures.answer c.take.ensures.node
    (record { index = refl; image = refl }) refl (λ reply is. ap (reply_to Kept) (c.in-Ok-Kept.is ∙ ap Ok c.in-Ok-Kept.field-0-is) ∙ is)

pub returns-in-Err : goal.returns-in-Err
returns-in-Err g c = λ sent.
    let old = c.args.replay_node.now in
    takes g.T.NormTable.model c.args.bytes.now (stage_of old sent) (stage_of (record old { node = c.take.new.self }) sent) _ c.take.result c.take.ensures.answer c.take.ensures.node
    (record { index = refl; image = refl }) refl (λ reply is. ap (reply_to Kept) c.in-Err.is ∙ sym c.refusal.ensures ∙ is)
