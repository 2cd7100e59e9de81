-- Fronts of texts whose code points pass a test.
use Rattle.std.specs.Prelude.{◌≡◌, ℕ, List, ◌++◌, chars, encode_utf8_all, All, IsUtf8}

-- a text behind some first code points that pass
pub record IsPast (P : ℕ → Type 0) (text rest : List ℕ) : Type 0 where
  pub front : List ℕ
  pub split : text ≡ encode_utf8_all front ++ rest
  pub text_is : chars text ≡ front ++ chars rest
  pub utf8 : IsUtf8 rest
  pub passed : All P front
