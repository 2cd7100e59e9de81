use Rattle.np_versions.proofs.CompositeLemmas.{AreOrdered-from_sort}
use Rattle.np_versions.proofs.pairs.Pairs.of_composites.Goals as goal

pub invariant_of-result-2 : goal.invariant_of-result-2
invariant_of-result-2 c = AreOrdered-from_sort c.args.composites.items c.sort_unstable.new.self.items c.requires c.sort_unstable.ensures.permutation c.sort_unstable.ensures.sorted
