-- Characters of several bytes, found by the bytes that begin them (The Unicode Standard, table 3-6).
use Rattle.std.specs.Prelude.{◌≡◌, ◌<◌, ◌≤◌, ◌++◌, ℕ, List, drop, encode_utf8, length}

-- a text begins with a character of so many bytes
pub record BeginsWithChar (text : List ℕ) (c count : ℕ) : Type 0 where
  pub parts : text ≡ encode_utf8 c ++ drop count text
  pub some : 1 < count
  pub few : count ≤ 4
  pub long : count ≤ length text
  pub scalar : c < 0x110000
