use Rattle.np_node.proofs.LawLemmas.{restored}
use Rattle.np_world.specs.Moments.{itself}
use Rattle.np_world.proofs.laws.restored.Goals as goal

pub returns : goal.returns
returns c = restored itself
