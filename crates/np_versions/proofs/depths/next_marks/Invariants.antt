use Rattle.std.proofs.Common.{length}
use Rattle.np_versions.proofs.RoundLemmas.{IsRound}
use Rattle.np_versions.proofs.depths.next_marks.Given as goal

abbrev pub invariant-loop-next : goal.invariant-loop-next
invariant-loop-next l = IsRound l.characters l.round l.next.items l.left

abbrev pub decreases-loop-next : goal.decreases-loop-next
decreases-loop-next l = length l.left
