-- Lowercases that lack a folding, as a test.
use Rattle.std.specs.Prelude.{◌≡◌, ℕ, Bool, true, not, ◌&&◌, ◌==◌, List, Some, slice_get}
use Rattle.np_foldings.specs.declared.lowercases.Lowercase.{Lowercase}
use Rattle.np_versions.specs.Versions.{is_assigned}
use Rattle.np_caseless.specs.Folded.{FoldedVersion, is_quiet}

-- the lowercase of the code point is another one and assigned, and neither folds
unfoldable pub lacks_folding : FoldedVersion → Lowercase → Bool
lacks_folding v pair =
    not (pair.lower == pair.code) && is_assigned v.version pair.lower && is_quiet v.foldings pair.code && is_quiet v.foldings pair.lower

-- that of the lowercase at a place, where it does
abbrev pub IsUnfoldedAt : FoldedVersion → List Lowercase → ℕ → ℕ → Type 0
IsUnfoldedAt v lowercases k c = (pair : Lowercase) × (slice_get lowercases k ≡ Some pair) × (pair.code ≡ c) × (lacks_folding v pair ≡ true)
