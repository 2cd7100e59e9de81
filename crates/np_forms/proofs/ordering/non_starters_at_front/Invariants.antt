use Rattle.std.proofs.Common.{◌≡◌, ℕ, List, take}
use Rattle.np_forms.proofs.Words.{with_classes, VersionData}
use Rattle.np_forms.proofs.SortLemmas.{IsRunTo}
use Rattle.np_forms.proofs.ordering.non_starters_at_front.Given as goal

abbrev pub invariant-loop-i : goal.invariant-loop-i
invariant-loop-i l = (v : VersionData) (cs : List ℕ) → l.list ≡ with_classes v cs → IsRunTo v (take l.i cs) l.last l.ordered
