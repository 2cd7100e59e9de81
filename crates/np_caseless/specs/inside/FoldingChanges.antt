-- Changed foldings, as a test.
use Rattle.std.specs.Prelude.{◌≡◌, ℕ, Bool, true, not, ◌&&◌, bytes_eq, List, length}
use Rattle.np_foldings.specs.Foldings.{Folding}
use Rattle.np_versions.specs.Versions.{is_assigned}
use Rattle.np_caseless.specs.Folded.{FoldedVersion, folding_at}
use Rattle.np_caseless.specs.inside.FirstFaults.{Below, IsFoldingAt}

-- assigned in both, with unlike foldings
unfoldable pub changes_folding : FoldedVersion → FoldedVersion → ℕ → Bool
changes_folding old new c =
    is_assigned old.version c && is_assigned new.version c && not (bytes_eq (folding_at new.foldings c) (folding_at old.foldings c))

-- the code point of the folding at a place, where its own changes
abbrev pub IsChangedAt : FoldedVersion → FoldedVersion → List Folding → ℕ → ℕ → Type 0
IsChangedAt old new listed k c = IsFoldingAt listed k c × (changes_folding old new c ≡ true)

-- one of those that are listed to fold
abbrev pub IsChangedAmong : FoldedVersion → FoldedVersion → List Folding → ℕ → Type 0
IsChangedAmong old new listed c = Below (IsChangedAt old new listed) (length listed) c
