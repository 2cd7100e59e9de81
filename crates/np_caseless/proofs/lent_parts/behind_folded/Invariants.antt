use Rattle.std.proofs.Common.{◌≡◌, ◌++◌, flat_map, take}
use Rattle.np_caseless.specs.Folded.{folded_by}
use Rattle.np_caseless.specs.inside.Images.{folded_parts}
use Rattle.np_caseless.proofs.lent_parts.behind_folded.Given as goal

abbrev pub invariant-loop-code : goal.invariant-loop-code
invariant-loop-code g l =
    l.list ≡ flat_map (folded_parts (folded_by (g.T.NormTable.model l.table) l.foldings) l.compat) (take l.code-index l.codes) ++ l.rest
