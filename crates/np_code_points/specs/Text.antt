-- Where bytes stop being text.
use Rattle.std.specs.Prelude.{ℕ, ◌≤◌, List, length, take, IsUtf8}

-- the first `at` bytes are the longest prefix that is UTF-8
pub record IsLongestValidPrefix (bytes : List ℕ) (at : ℕ) : Type 0 where
  pub within : at ≤ length bytes
  pub valid : IsUtf8 (take at bytes)
  pub longest : (n : ℕ) → n ≤ length bytes → IsUtf8 (take n bytes) → n ≤ at
