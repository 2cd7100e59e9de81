use Rattle.std.proofs.Common.{◌≡◌, ◌++◌, take}
use Rattle.np_caseless.proofs.lent_parts.behind.Given as goal

abbrev pub invariant-loop-code : goal.invariant-loop-code
invariant-loop-code l = l.list ≡ take l.code-index l.front ++ l.rest
