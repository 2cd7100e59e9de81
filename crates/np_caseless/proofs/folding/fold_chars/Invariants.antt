use Rattle.std.proofs.Common.{◌≡◌, take}
use Rattle.np_caseless.specs.Folded.{fold_all}
use Rattle.np_caseless.proofs.folding.fold_chars.Given as goal

abbrev pub invariant-loop-code : goal.invariant-loop-code
invariant-loop-code l = l.folded.items ≡ fold_all l.foldings (take l.code-index l.chars)
