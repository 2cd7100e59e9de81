-- Decomposition mappings (The Unicode Standard, D62, D65, D68): one step of rewriting, and the full decomposition.
use Rattle.std.specs.Prelude.{◌≡◌, ◌≢◌, ℕ, zero, suc, Bool, true, false, ◌&&◌, List, [], ◌∷◌, ◌++◌, if◌then◌else◌}
use Rattle.std.specs.List.{list_all}
use Rattle.np_code_points.specs.Steps.{Reaches}
use Rattle.np_versions.specs.Versions.{VersionData, is_empty, has_hangul, decomposition_kind, decomposition_mapping}
use Rattle.np_code_points.specs.Hangul.{is_syllable}
use Rattle.np_ucd.specs.declared.rows.MapKind.{MapKind}
use Rattle.np_ucd.specs.declared.rows.MapKind.TheVariants.{Plain, Canonical, Compatibility}

-- canonical mappings count for both kinds of decomposition, compatibility mappings for the compatible one alone
abbrev pub counts : Bool → MapKind → Bool
counts compat Plain = false
counts compat Canonical = true
counts compat Compatibility = compat

-- the mapping that counts, empty where there is none
unfoldable pub parts : VersionData → Bool → ℕ → List ℕ
parts v compat c = if counts compat (decomposition_kind v c) then decomposition_mapping v c else []

-- one code point, at any place, is replaced by its mapping
pub record Rewrites (v : VersionData) (compat : Bool) (xs ys : List ℕ) : Type 0 where
  pub before : List ℕ
  pub code : ℕ
  pub after : List ℕ
  pub maps : parts v compat code ≢ []
  pub old : xs ≡ before ++ code ∷ after
  pub new : ys ≡ before ++ (parts v compat code ++ after)

-- the code point has no mapping that counts
abbrev pub is_final : VersionData → Bool → ℕ → Bool
is_final v compat c = is_empty (parts v compat c)

-- some number of steps leads from xs to ys, in which no code point has a mapping that counts (D65, or D68 without `compat`)
pub record IsFullDecomposition (v : VersionData) (compat : Bool) (xs ys : List ℕ) : Type 0 where
  pub reached : Reaches (Rewrites v compat) xs ys
  pub final : list_all (is_final v compat) ys ≡ true

-- the depth of a code point is at most n: 0 without a mapping, else 1 plus the greatest in the mapping, of either kind
unfoldable pub has_depth : VersionData → ℕ → ℕ → Bool
has_depth v zero c = is_empty (decomposition_mapping v c)
has_depth v (suc n) c = list_all (has_depth v n) (decomposition_mapping v c)

-- what a table lends for a code point: its full decomposition, but nothing where no mapping counts, and for a syllable of the arithmetic
pub record IsLent (v : VersionData) (compat : Bool) (c : ℕ) (lent : List ℕ) : Type 0 where
  pub final : is_final v compat c ≡ true → lent ≡ []
  pub syllable : (has_hangul v && is_syllable c) ≡ true → lent ≡ []
  pub full : is_final v compat c ≡ false → (has_hangul v && is_syllable c) ≡ false → IsFullDecomposition v compat (c ∷ []) lent
