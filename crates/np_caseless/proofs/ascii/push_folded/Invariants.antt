use Rattle.std.proofs.Common.{◌≡◌, ◌++◌, get_or, map, take}
use Rattle.np_caseless.proofs.ascii.push_folded.Given as goal

abbrev pub invariant-bytes : goal.invariant-bytes
invariant-bytes l = l.out.items ≡ l.fn.out.items ++ map (λ b. get_or l.bytes b 0) (take l.byte-index l.text)
