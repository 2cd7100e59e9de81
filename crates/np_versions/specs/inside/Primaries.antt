-- Primary composites by a test.
use Rattle.std.specs.Prelude.{ℕ, Bool, false, not, ◌&&◌, ◌==◌, List, [], ◌∷◌}
use Rattle.np_versions.specs.Versions.{VersionData, class_of, decomposition_kind, decomposition_mapping, file_kind, file_mapping, is_canonical, is_excluded}

-- exactly two code points, of which the first is a starter
abbrev pub is_starter_pair : (ℕ → ℕ) → List ℕ → Bool
is_starter_pair ccc [] = false
is_starter_pair ccc (a ∷ []) = false
is_starter_pair ccc (a ∷ b ∷ []) = ccc a == 0
is_starter_pair ccc (a ∷ b ∷ c ∷ cs) = false

-- `IsPrimary` as a test
unfoldable pub is_primary : VersionData → ℕ → Bool
is_primary v c =
    (is_canonical (decomposition_kind v c) && is_starter_pair (class_of v) (decomposition_mapping v c)) && (not (is_excluded v c) && class_of v c == 0)

-- a primary composite by its mapping in the file
abbrev pub is_file_primary : VersionData → ℕ → Bool
is_file_primary v c =
    (is_canonical (file_kind v c) && is_starter_pair (class_of v) (file_mapping v c)) && (not (is_excluded v c) && class_of v c == 0)
