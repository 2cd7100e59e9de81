use Rattle.std.proofs.Common.{refl}
use Rattle.np_world.proofs.node_steps.save.Goals as goal

pub returns : goal.returns
returns g c = λ sent. record { image = c.in_ok-image.image.items; spelling = c.in_ok-image.ensures; now = refl; told = refl }
