use Rattle.std.proofs.Common.{◌≡◌, take, true}
use Rattle.std.specs.List.{list_all}
use Rattle.np_versions.specs.Versions.{is_assigned}
use Rattle.np_chain.proofs.audits.all_assigned.Given as goal

abbrev pub invariant-loop-code : goal.invariant-loop-code
invariant-loop-code l = list_all (is_assigned l.version) (take l.code-index l.codes) ≡ true
