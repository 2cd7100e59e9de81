use Rattle.std.proofs.Common.{◌≡◌, ◌++◌, ◌-◌, take, flat_map}
use Rattle.np_versions.specs.inside.FullDecompositions.{full}
use Rattle.np_tables.proofs.fulls.+expand.Given as goal

abbrev pub invariant-loop-part : goal.invariant-loop-part
invariant-loop-part l = l.out.items ≡ l.fn.out.items ++ flat_map (full l.version l.compat (l.depth - 1)) (take l.part-index l.mapping)

abbrev pub decreases-expand : goal.decreases-expand
decreases-expand l = l.depth
