use Rattle.np_node.proofs.ImageLemmas.{one_image, one_image_fault}
use Rattle.np_node.proofs.FoundLemmas.{image_or_fault}
use Rattle.np_node.proofs.laws.images.Goals as goal

pub returns-clause-one : goal.returns-clause-one
returns-clause-one c = one_image

pub returns-clause-fault : goal.returns-clause-fault
returns-clause-fault c = one_image_fault

pub returns-clause-some : goal.returns-clause-some
returns-clause-some c = image_or_fault
