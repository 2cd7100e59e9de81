use Rattle.std.proofs.Common.{◌≡◌, ℕ, List, ◌++◌, take}
use Rattle.np_forms.proofs.Words.{with_classes, Rises, VersionData, class_of}
use Rattle.np_forms.proofs.ordering.is_in_order.Given as goal

abbrev pub invariant-loop-c : goal.invariant-loop-c
invariant-loop-c l = (v : VersionData) (cs later : List ℕ) → l.list ≡ with_classes v cs → Rises (class_of v) l.last later → Rises (class_of v) 0 (take l.c-index cs ++ later)
