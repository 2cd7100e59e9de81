use Rattle.np_versions.proofs.CompositeLemmas.{AreOfFile-from}
use Rattle.np_versions.proofs.pairs.Pairs.new.Goals as goal

pub returns : goal.returns
returns c = AreOfFile-from c.args.characters.now c.are_in_order.ensures c.in_ok-composites.composites.items c.in_ok-pairs.pairs c.in_ok-composites.ensures.items c.in_ok-pairs.ensures
