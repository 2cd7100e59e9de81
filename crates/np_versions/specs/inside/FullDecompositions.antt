-- The full decomposition as a function: a way to the one list of `IsFullDecomposition`.
use Rattle.std.specs.Prelude.{ℕ, zero, suc, Bool, ◌&&◌, ◌||◌, List, [], ◌∷◌, flat_map, if◌then◌else◌}
use Rattle.np_versions.specs.Versions.{VersionData, has_hangul}
use Rattle.np_code_points.specs.Hangul.{is_syllable}
use Rattle.np_versions.specs.Mappings.{parts, is_final}

-- the full decomposition of a code point whose depth is at most n
unfoldable pub full : VersionData → Bool → ℕ → ℕ → List ℕ
full v compat zero c = c ∷ []
full v compat (suc n) c = if is_final v compat c then c ∷ [] else flat_map (full v compat n) (parts v compat c)

-- no version is deeper than 32
unfoldable pub full_of : VersionData → Bool → ℕ → List ℕ
full_of v compat c = full v compat 32 c

-- what a table lends: the full decomposition, empty where there is none and for a syllable of the arithmetic
unfoldable pub table_full : VersionData → Bool → ℕ → List ℕ
table_full v compat c = if is_final v compat c || (has_hangul v && is_syllable c) then [] else full_of v compat c
