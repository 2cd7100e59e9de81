-- A version with its full case foldings (The Unicode Standard, section 3.13).
use Rattle.std.specs.Prelude.{ℕ, Bool, List, [], ◌∷◌, flat_map}
use Rattle.std.specs.Str.{bytes_eq}
use Rattle.np_foldings.specs.Foldings.{Folding}
unfoldable pub use Rattle.np_foldings.specs.Foldings.{folding_at}
use Rattle.np_versions.specs.Versions.{VersionData}

pub record FoldedVersion : Type 0 where
  pub version : VersionData
  pub foldings : List Folding

-- the folding of a string: those of its code points, one behind the other (rule R4 of toCasefold)
unfoldable pub fold_all : List Folding → List ℕ → List ℕ
fold_all foldings xs = flat_map (folding_at foldings) xs

-- a code point that folds to itself alone
unfoldable pub is_quiet : List Folding → ℕ → Bool
is_quiet foldings c = bytes_eq (folding_at foldings c) (c ∷ [])

abbrev pub folded_by : VersionData → List Folding → FoldedVersion
folded_by version foldings = record { version = version; foldings = foldings }
