-- The laws of versions, over the definitions alone.
use Rattle.std.specs.Prelude.{◌≡◌, ◌↔◌, ℕ, Bool, true, List, [], if◌then◌else◌}
use Rattle.std.specs.List.{list_all}
use Rattle.np_code_points.specs.Hangul.{is_syllable, syllable_pair}
use Rattle.np_versions.specs.Mappings.{IsFullDecomposition, has_depth}
use Rattle.np_versions.specs.Versions.{VersionData, class_of, decomposition_mapping, has_hangul, is_assigned, is_hangul, is_hangul_row}

-- a list has at most one full decomposition of a kind, whatever faults the version has
abbrev pub AtMostOneDecomposition : Type 0
AtMostOneDecomposition =
    (v : VersionData) (compat : Bool) (xs ys zs : List ℕ) → IsFullDecomposition v compat xs ys → IsFullDecomposition v compat xs zs → ys ≡ zs

-- a list has a full decomposition of each kind where no code point in it is deeper than some n
pub record HasDecomposition (v : VersionData) (compat : Bool) (xs : List ℕ) : Type 0 where
  pub list : List ℕ
  pub is : IsFullDecomposition v compat xs list

abbrev pub SomeDecomposition : Type 0
SomeDecomposition = (v : VersionData) (compat : Bool) (n : ℕ) (xs : List ℕ) → list_all (has_depth v n) xs ≡ true → HasDecomposition v compat xs

-- the Hangul arithmetic is on exactly where each of the 11,239 syllables and jamo is as it wants it
abbrev pub HangulOn : Type 0
HangulOn = (v : VersionData) → (has_hangul v ≡ true) ↔ ((c : ℕ) → is_hangul c ≡ true → is_hangul_row v c ≡ true)

-- what the arithmetic makes of a syllable or a jamo: a starter, which maps to its pair or to nothing
pub record IsByArithmetic (v : VersionData) (c : ℕ) : Type 0 where
  pub assigned : is_assigned v c ≡ true
  pub class : class_of v c ≡ 0
  pub mapping : decomposition_mapping v c ≡ (if is_syllable c then syllable_pair c else [])

abbrev pub HangulByArithmetic : Type 0
HangulByArithmetic = (v : VersionData) → has_hangul v ≡ true → (c : ℕ) → is_hangul c ≡ true → IsByArithmetic v c
