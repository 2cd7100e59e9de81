use Rattle.std.proofs.Common.{◌∙◌}
use Rattle.np_caseless.proofs.simple_images.put_text.Goals as goal

pub loop-code-preserved : goal.loop-code-preserved
loop-code-preserved g c = (
  c.put.ensures.length ∙ c.loop-code.invariant.0,
  λ v same all done. c.put.ensures.simple v same all (c.loop-code.invariant.1 v same all done),
)
