use Rattle.std.proofs.Common.{take}
use Rattle.np_versions.proofs.RoundLemmas.{IsSum}
use Rattle.np_versions.proofs.depths.parts_mark.Given as goal

abbrev pub invariant-loop-part : goal.invariant-loop-part
invariant-loop-part l = IsSum l.characters l.round (take l.part-index l.parts) l.sum
