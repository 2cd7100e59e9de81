-- What a version may not have: five kinds of faults, each at a code point.
use Rattle.std.specs.Prelude.{◌≡◌, ℕ, ◌<◌, true, false, List, [], ◌∷◌, length}
use Rattle.std.specs.List.{list_all}
use Rattle.np_versions.specs.Composites.{IsPrimary}
use Rattle.np_versions.specs.Mappings.{IsFullDecomposition, has_depth}
use Rattle.np_versions.specs.Versions.{VersionData, is_assigned, is_hangul, is_hangul_row, decomposition_mapping}

-- its mapping holds an unassigned code point
pub record IsMappedToUnassigned (v : VersionData) (c : ℕ) : Type 0 where
  pub lacks : list_all (is_assigned v) (decomposition_mapping v c) ≡ false

-- its depth is over 32; a cycle is too deep
pub record IsTooDeep (v : VersionData) (c : ℕ) : Type 0 where
  pub deep : has_depth v 32 c ≡ false

-- it is not too deep, and its full compatibility decomposition has more than 64 code points
pub record IsTooLong (v : VersionData) (c : ℕ) : Type 0 where
  pub shallow : has_depth v 32 c ≡ true
  pub full : List ℕ
  pub decomposes : IsFullDecomposition v true (c ∷ []) full
  pub long : 64 < length full

-- it is a primary composite, and a smaller one has the same mapping
pub record IsAmbiguous (v : VersionData) (c : ℕ) : Type 0 where
  pub primary : IsPrimary v c
  pub other : ℕ
  pub smaller : other < c
  pub other_primary : IsPrimary v other
  pub same : decomposition_mapping v other ≡ decomposition_mapping v c

-- it is a syllable or a jamo, some of which are assigned, and isn't as the arithmetic wants it: unassigned, of non-zero class, or with a mapping in the file
pub record IsHangulWrong (v : VersionData) (c : ℕ) : Type 0 where
  pub hangul : is_hangul c ≡ true
  pub some : ℕ
  pub some_hangul : is_hangul some ≡ true
  pub some_assigned : is_assigned v some ≡ true
  pub wrong : is_hangul_row v c ≡ false
