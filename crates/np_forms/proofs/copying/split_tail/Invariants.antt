use Rattle.std.proofs.Common.{◌≡◌, List, ◌++◌, ℕ, length}
use Rattle.std.specs.Str.Iter.{chars_rest}
use Rattle.np_forms.proofs.copying.split_tail.Given as goal

abbrev pub invariant-scan : goal.invariant-scan
invariant-scan g l = (back : List ℕ) × (l.text ≡ chars_rest l.iter ++ back)

abbrev pub decreases-scan : goal.decreases-scan
decreases-scan g l = length (chars_rest l.iter)
