-- How a list of primary composites is made and searched.
use Rattle.std.specs.Prelude.{◌≡◌, ℕ, ◌+◌, ◌*◌, ◌%◌, ◌<◌, Bool, List, [], ◌∷◌, Some, slice_get, slice_index, cond}
use Rattle.std.specs.List.{All}
use Rattle.np_ucd.specs.Entries.{Entry}
use Rattle.np_versions.specs.inside.Primaries.{is_primary}
use Rattle.np_versions.specs.Versions.{VersionData}
use Rattle.np_versions.specs.declared.pairs.Composite.{Composite}

-- this composite stands at a place, from 0
abbrev pub IsCompositeAt : List Composite → ℕ → ℕ → ℕ → ℕ → Type 0
IsCompositeAt cs place first second code = slice_get cs place ≡ Some (record { first = first; second = second; code = code })

-- the slot of a pair
abbrev pub slot_at : ℕ → ℕ → ℕ
slot_at first second = (first * 1830 + second) % 8192

-- the slot of each composite's pair has a number
abbrev pub HaveNumbers : List ℕ → List Composite → Type 0
HaveNumbers slots cs = All (λ c. 0 < slice_index slots (slot_at c.first c.second)) cs

-- what a row gives: its composite, where its mapping is a pair and its code point a primary composite
abbrev pub pair_in : Bool → ℕ → List ℕ → List Composite
pair_in primary c [] = []
pair_in primary c (a ∷ []) = []
pair_in primary c (a ∷ b ∷ []) = cond primary (record { first = a; second = b; code = c } ∷ []) []
pair_in primary c (a ∷ b ∷ x ∷ xs) = []

abbrev pub composites_in : VersionData → Entry → List Composite
composites_in v e = pair_in (is_primary v e.first) e.first e.mapping
