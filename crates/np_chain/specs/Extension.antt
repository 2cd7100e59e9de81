-- One version extends another.
use Rattle.std.specs.Prelude.{◌≡◌, ℕ, true}
use Rattle.std.specs.List.{list_all}
use Rattle.np_versions.specs.Composites.{IsPrimary}
use Rattle.np_versions.specs.Versions.{VersionData, is_assigned, class_of, decomposition_kind, decomposition_mapping}

-- what is assigned in a stands in b as it was
pub record Keeps (a b : VersionData) (c : ℕ) : Type 0 where
  pub assigned : is_assigned b c ≡ true
  pub class : class_of b c ≡ class_of a c
  pub kind : decomposition_kind b c ≡ decomposition_kind a c
  pub mapping : decomposition_mapping b c ≡ decomposition_mapping a c

-- b extends a; each c that a premise admits is a code point, of at most 10FFFF (`Laws.AreOfCodePoints`)
pub record Extends (a b : VersionData) : Type 0 where
  pub keeps : (c : ℕ) → is_assigned a c ≡ true → Keeps a b c
  pub old_composites : (c : ℕ) → IsPrimary a c → IsPrimary b c
  pub new_composites : (c : ℕ) → IsPrimary b c → list_all (is_assigned a) (decomposition_mapping b c) ≡ true → IsPrimary a c
