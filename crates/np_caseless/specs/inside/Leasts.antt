-- The least of some numbers.
use Rattle.std.specs.Prelude.{ℕ, nat_le, Option, Some, None, if◌then◌else◌}

abbrev pub least : Option ℕ → ℕ → Option ℕ
least None other = Some other
least (Some one) other = if nat_le one other then Some one else Some other
