use Rattle.std.proofs.Common.{◌≡◌, ◌++◌, flat_map, take}
use Rattle.np_versions.specs.inside.FullDecompositions.{full_of}
use Rattle.np_caseless.proofs.lent_parts.behind_full.Given as goal

abbrev pub invariant-loop-code : goal.invariant-loop-code
invariant-loop-code g l = l.list ≡ flat_map (full_of (g.T.NormTable.model l.table) l.compat) (take l.code-index l.codes) ++ l.rest
