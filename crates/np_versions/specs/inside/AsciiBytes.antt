-- ASCII at the front of bytes.
use Rattle.std.specs.Prelude.{ℕ, Bool, not, nat_le}

-- whether a byte is an ASCII character, as a scan over bytes asks
abbrev pub is_ascii_byte : ℕ → Bool
is_ascii_byte b = not (nat_le 128 b)
