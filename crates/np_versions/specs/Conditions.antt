-- What holds of each version that was built.
use Rattle.std.specs.Prelude.{◌≡◌, ◌≢◌, ℕ, ◌<◌, ◌≤◌, true, List, [], ◌∷◌, length}
use lib.Utf8.{scalar}
use Rattle.std.specs.List.{list_all}
use Rattle.np_ucd.specs.Entries.{AreRows}
use Rattle.np_versions.specs.Composites.{IsCompositeOf}
use Rattle.np_versions.specs.Mappings.{IsFullDecomposition, has_depth}
use Rattle.np_versions.specs.Versions.{VersionData, class_of, is_assigned, is_hangul, has_hangul, decomposition_mapping}

pub record IsSound (v : VersionData) : Type 0 where
  -- the rows are those of a data file
  pub rows : AreRows v.entries
  -- each row lies within the code points
  pub bounded : (c : ℕ) → is_assigned v c ≡ true → c < 0x110000
  -- 255 is no combining class
  pub classes : (c : ℕ) → class_of v c ≤ 254
  -- a mapping holds no surrogate
  pub scalars : (c : ℕ) → list_all scalar (decomposition_mapping v c) ≡ true
  -- no surrogate has a mapping
  pub mapped_scalar : (c : ℕ) → decomposition_mapping v c ≢ [] → scalar c ≡ true
  -- a mapping holds assigned code points alone
  pub maps_to_assigned : (c : ℕ) → list_all (is_assigned v) (decomposition_mapping v c) ≡ true
  -- no code point is deeper than 32
  pub shallow : (c : ℕ) → has_depth v 32 c ≡ true
  -- no full compatibility decomposition is longer than 64
  pub short : (c : ℕ) (full : List ℕ) → IsFullDecomposition v true (c ∷ []) full → length full ≤ 64
  -- a pair has one primary composite at most
  pub unlike : (a b c d : ℕ) → IsCompositeOf v a b c → IsCompositeOf v a b d → c ≡ d
  -- where a syllable or a jamo is assigned, the arithmetic is on
  pub hangul : (c : ℕ) → is_hangul c ≡ true → is_assigned v c ≡ true → has_hangul v ≡ true
