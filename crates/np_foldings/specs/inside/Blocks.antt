-- Blocks of 16 code points in which some may fold.
use Rattle.std.specs.Prelude.{◌≢◌, ℕ, ◌/◌, ◌<◌, List, get_or, length}
use Rattle.np_foldings.specs.declared.foldings as code

-- the block of a code point isn't known to have none that folds
abbrev pub IsMarked : List ℕ → ℕ → Type 0
IsMarked blocks c = get_or blocks (c / 16) 1 ≢ 0

-- the block of each code point that is listed to fold
abbrev pub AreMarked : List ℕ → List code.Folding.Folding → Type 0
AreMarked blocks foldings = (k : ℕ) (d : code.Folding.Folding) → k < length foldings → IsMarked blocks (get_or foldings k d).code
