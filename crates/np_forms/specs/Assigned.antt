-- Texts of assigned code points (UAX #15, section 12).
use Rattle.std.specs.Prelude.{◌≡◌, ℕ, true, false, List, ◌∷◌, ◌++◌, length, encode_utf8_all}
use Rattle.std.specs.List.{list_all}
use Rattle.np_versions.specs.Versions.{VersionData, is_assigned}

-- each code point is assigned
abbrev pub IsAssigned : VersionData → List ℕ → Type 0
IsAssigned v xs = list_all (is_assigned v) xs ≡ true

-- code is the first that is not assigned, and `at` is its byte place: what stands before it, as UTF-8, has so many bytes
pub record IsFirstUnassigned (v : VersionData) (xs : List ℕ) (at code : ℕ) : Type 0 where
  pub before : List ℕ
  pub after : List ℕ
  pub split : xs ≡ before ++ code ∷ after
  pub assigned : IsAssigned v before
  pub lacks : is_assigned v code ≡ false
  pub place : at ≡ length (encode_utf8_all before)
