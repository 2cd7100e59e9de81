use Rattle.std.proofs.Common.{◌≡◌, drop}
use Rattle.std.specs.List.{list_all}
use Rattle.np_versions.specs.Versions.{is_assigned}
use Rattle.np_caseless.proofs.folding_faults.are_assigned.Given as goal

abbrev pub invariant-loop-code : goal.invariant-loop-code
invariant-loop-code g l =
    list_all (is_assigned (g.T.NormTable.model l.table)) (drop l.code-index l.codes) ≡ list_all (is_assigned (g.T.NormTable.model l.table)) l.codes
