use Rattle.np_node.proofs.LawLemmas.{never_fewer, saved}
use Rattle.np_node.proofs.laws.saved.Goals as goal

pub returns-clause-saved : goal.returns-clause-saved
returns-clause-saved c = saved

pub returns-clause-fewer : goal.returns-clause-fewer
returns-clause-fewer c = never_fewer
