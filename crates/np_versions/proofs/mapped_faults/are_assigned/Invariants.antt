use Rattle.std.proofs.Common.{◌≡◌, drop}
use Rattle.np_versions.proofs.Words.{list_all, is_assigned}
use Rattle.np_versions.proofs.mapped_faults.are_assigned.Given as goal

abbrev pub invariant-loop-part : goal.invariant-loop-part
invariant-loop-part l = list_all (is_assigned l.characters) (drop l.part-index l.mapping) ≡ list_all (is_assigned l.characters) l.mapping
