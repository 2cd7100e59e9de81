use Rattle.std.proofs.Common.{◌∙◌}
use Rattle.np_caseless.proofs.simple_images.put_first.Goals as goal
use Rattle.np_caseless.proofs.simple_images.put_first.Goals.{in-Some, in_default}

pub loop-code-preserved : goal.loop-code-preserved
loop-code-preserved g c =
    elim c.match-from_u32.branch [
      | in-Some w ↦
          rw w.list-is (
            w.put.ensures.length ∙ c.loop-code.invariant.0,
            λ v same all done. w.put.ensures.simple v same all (c.loop-code.invariant.1 v same all done),
          )
      | in_default w ↦ rw w.list-is c.loop-code.invariant
    ]
