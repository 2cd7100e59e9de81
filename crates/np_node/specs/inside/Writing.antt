-- Bytes that are written into room.
use Rattle.std.specs.Prelude.{◌≡◌, ℕ, ◌+◌, List, ◌++◌, length, take}

-- the bytes stand between two places, and before them what stood there
pub record IsWritten (old new : List ℕ) (at end : ℕ) (xs : List ℕ) : Type 0 where
  pub front : take end new ≡ take at old ++ xs
  pub place : end ≡ at + length xs
  pub size : length new ≡ length old
