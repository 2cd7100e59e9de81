use Rattle.std.proofs.Common.{◌∙◌}
use Rattle.np_caseless.proofs.simple_images.put_folding.Goals as goal

pub loop-at-preserved : goal.loop-at-preserved
loop-at-preserved g c = (
  c.put_text.ensures.length ∙ c.put.ensures.length ∙ c.loop-at.invariant.0,
  λ v same all done. c.put_text.ensures.simple v same all (c.put.ensures.simple v same all (c.loop-at.invariant.1 v same all done)),
)
