use Rattle.std.proofs.Common.{◌≡◌, drop}
use Rattle.std.specs.List.{list_all}
use Rattle.np_caseless.specs.Folded.{is_quiet}
use Rattle.np_caseless.proofs.quiet.are_quiet.Given as goal

abbrev pub invariant-loop-code : goal.invariant-loop-code
invariant-loop-code l = list_all (is_quiet l.foldings) (drop l.code-index l.codes) ≡ list_all (is_quiet l.foldings) l.codes
