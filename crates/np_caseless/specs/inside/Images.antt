-- What may stand in place of code points before one last normalization: their images.
use Rattle.std.specs.Prelude.{◌≡◌, ℕ, ◌||◌, ◌==◌, Bool, true, false, List, [], ◌∷◌, flat_map}
use Rattle.std.specs.List.{list_all}
use Rattle.std.specs.Str.{bytes_eq}
use Rattle.np_versions.specs.Versions.{class_of}
use Rattle.np_versions.specs.inside.FullDecompositions.{full_of}
use Rattle.np_caseless.specs.Folded.{FoldedVersion, folding_at}

-- the full decomposition of a code point's folding
unfoldable pub folded_parts : FoldedVersion → Bool → ℕ → List ℕ
folded_parts v compat c = flat_map (full_of v.version compat) (folding_at v.foldings c)

-- a code point after which nothing changes places: a starter, or one that folds and decomposes to itself alone
unfoldable pub stays : FoldedVersion → Bool → ℕ → Bool
stays v compat c = class_of v.version c == 0 || bytes_eq (folded_parts v compat c) (c ∷ [])

-- the decomposition of the folding of a code point's canonical decomposition
unfoldable pub once_folded : FoldedVersion → Bool → ℕ → List ℕ
once_folded v compat c = flat_map (folded_parts v compat) (full_of v.version false c)

-- what is normalized last, of a code point by itself and decomposed
unfoldable pub last_parts : FoldedVersion → Bool → ℕ → List ℕ
last_parts v false c = once_folded v false c
last_parts v true c = flat_map (folded_parts v true) (once_folded v true c)

-- what the folding of a code point's canonical decomposition decomposes to, with nothing that folds changing places
pub record LeadsOnce (v : FoldedVersion) (compat : Bool) (c : ℕ) (list : List ℕ) : Type 0 where
  pub first : list_all (stays v compat) (full_of v.version false c) ≡ true
  pub once : list ≡ once_folded v compat c

-- what is normalized last
pub record AreLast (v : FoldedVersion) (compat : Bool) (c : ℕ) (list : List ℕ) : Type 0 where
  pub first : list_all (stays v compat) (full_of v.version false c) ≡ true
  pub second : compat ≡ true → list_all (stays v true) (once_folded v true c) ≡ true
  pub last : list ≡ last_parts v compat c

-- ys may stand in place of xs
pub record AreImages (v : FoldedVersion) (compat : Bool) (xs ys : List ℕ) : Type 0 where
  -- on the way to what is normalized last nothing that folds changes places
  pub first : list_all (stays v compat) (flat_map (full_of v.version false) xs) ≡ true
  pub second : compat ≡ true → list_all (stays v true) (flat_map (once_folded v true) xs) ≡ true
  pub parts : flat_map (full_of v.version compat) ys ≡ flat_map (last_parts v compat) xs
