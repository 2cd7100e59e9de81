-- How bytes begin, as far as they are a text (The Unicode Standard, table 3-7).
use Rattle.std.specs.Prelude.{◌≡◌, ◌≢◌, ℕ, List, drop, None}
use Rattle.std.specs.Str.Lossy.{utf8_error_len}
use Rattle.np_code_points.specs.Text.{IsLongestValidPrefix}

-- n bytes are the longest prefix of a chunk that is a text, and what follows them may begin a character
pub record MayBegin (chunk : List ℕ) (n : ℕ) : Type 0 where
  pub prefix : IsLongestValidPrefix chunk n
  pub begins : utf8_error_len (drop n chunk) ≡ None

-- n bytes are the longest prefix of a chunk that is a text, and what follows them begins no character
pub record MayNotBegin (chunk : List ℕ) (n : ℕ) : Type 0 where
  pub prefix : IsLongestValidPrefix chunk n
  pub ends : utf8_error_len (drop n chunk) ≢ None
