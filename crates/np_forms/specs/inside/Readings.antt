-- Texts of which a front was read, each code point of it assigned.
use Rattle.std.specs.Prelude.{◌≡◌, ℕ, List, ◌++◌, chars, encode_utf8_all, IsUtf8}
use Rattle.np_forms.specs.Assigned.{IsAssigned}
use Rattle.np_versions.specs.Versions.{VersionData}

-- the code points `front` were read of a text, and `rest` is left
pub record IsRead (text rest front : List ℕ) : Type 0 where
  pub utf8 : IsUtf8 rest
  pub bytes : text ≡ encode_utf8_all front ++ rest
  pub split : chars text ≡ front ++ chars rest

-- what was read of s is assigned, and `rest` is left
pub record IsReadAssigned (v : VersionData) (s rest : List ℕ) : Type 0 where
  pub before : List ℕ
  pub reads : IsRead s rest before
  pub assigned : IsAssigned v before
