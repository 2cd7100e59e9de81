use Rattle.std.proofs.Common.{◌≡◌, drop, flat_map}
use Rattle.std.specs.List.{list_all}
use Rattle.np_versions.specs.inside.FullDecompositions.{full_of}
use Rattle.np_caseless.specs.Folded.{is_quiet}
use Rattle.np_caseless.proofs.folded_again.all_parts_are_quiet.Given as goal

abbrev pub invariant-loop-code : goal.invariant-loop-code
invariant-loop-code g l =
    list_all (is_quiet l.foldings) (flat_map (full_of (g.T.NormTable.model l.table) l.compat) (drop l.code-index l.codes))
    ≡ list_all (is_quiet l.foldings) (flat_map (full_of (g.T.NormTable.model l.table) l.compat) l.codes)
