use Rattle.std.proofs.Common.{◌≡◌, ◌-◌, ℕ, List, length}
use Rattle.np_forms.proofs.Words.{IsOrderedOn, with_classes, VersionData}
use Rattle.np_forms.proofs.ordering.order.Given as goal

abbrev pub invariant-runs : goal.invariant-runs
invariant-runs l = (v : VersionData) (cs : List ℕ) → l.fn.list ≡ with_classes v cs → IsOrderedOn v cs 0 l.at l.list

abbrev pub decreases-runs : goal.decreases-runs
decreases-runs l = length l.initial.list - l.at
