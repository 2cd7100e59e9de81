use Rattle.std.proofs.Common.{◌≡◌, ◌++◌, flat_map, take}
use Rattle.np_versions.specs.inside.FullDecompositions.{full_of}
use Rattle.np_caseless.proofs.images.push_full.Given as goal

abbrev pub invariant-loop-code : goal.invariant-loop-code
invariant-loop-code g l =
    l.parts.items ≡ l.initial.parts.items ++ flat_map (full_of (g.T.NormTable.model l.table) l.compat) (take l.code-index l.codes)
