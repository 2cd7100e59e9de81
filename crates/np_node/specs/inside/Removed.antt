-- What is left of entries from which a string was taken.
use Rattle.std.specs.Prelude.{◌≡◌, ℕ, List, Bool, true, false}
use Rattle.np_node.specs.Forgetting.{IsWithout}
use Rattle.np_node.specs.Nodes.{IsKept}
use Rattle.np_node.specs.Strings.{Entry}

abbrev pub IsRemoved : List Entry → List Entry → List ℕ → Bool → Type 0
IsRemoved old new string true = IsWithout old new string
IsRemoved old new string false = (¬ IsKept old string) × (new ≡ old)
