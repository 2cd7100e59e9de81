use Rattle.std.proofs.Common.{◌≡◌, ◌≤◌, ℕ, List, true, length}
use Rattle.np_forms.proofs.Words.{is_ordered, with_classes, IsInPlace, class_of}
use Rattle.np_forms.proofs.composing.compose.Given as goal

abbrev pub invariant-loop-at : goal.invariant-loop-at
invariant-loop-at g l =
    let v = g.T.NormTable.model l.table in
    ((cs : List ℕ) → l.fn.text.items ≡ with_classes v cs → is_ordered (class_of v) cs ≡ true → IsInPlace v cs l.at l.composer.list.items l.composer.kept l.composer.starter l.composer.last)
    × (l.composer.kept ≤ l.at) × (length l.composer.list.items ≡ length l.fn.text.items)
