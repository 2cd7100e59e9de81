-- How an input was read, by what its reader had before and has after; a reader that doesn't tell its bytes has nothing to compare with.
use Rattle.std.specs.Prelude.{◌≡◌, ℕ, ◌<◌, ◌≤◌, List, length, Option, IfSome}
use Rattle.std.specs.Io.KnownBytes.{Consumes}

-- these are all of its bytes, of which it may have 16,777,216 at most
pub record IsReadWhole (before after : Option (List ℕ)) (bytes : List ℕ) : Type 0 where
  pub taken : Consumes before after bytes
  pub whole : IfSome before (λ xs. bytes ≡ xs)
  pub size : length bytes ≤ 16777216

-- it has more bytes than it may have: one more was read, and nothing after it
pub record IsReadPastLimit (before after : Option (List ℕ)) : Type 0 where
  pub bytes : List ℕ
  pub size : length bytes ≡ 16777217
  pub taken : Consumes before after bytes
  pub more : IfSome before (λ xs. 16777216 < length xs)
