-- The code points of a row.
use Rattle.std.specs.Prelude.{ℕ, Bool, false, ◌&&◌, nat_le, Option, Some, None}
use Rattle.np_ucd.specs.Entries.{Entry}

-- the code point is one of those that the row has
abbrev pub lies_in : Option Entry → ℕ → Bool
lies_in None c = false
lies_in (Some e) c = nat_le e.first c && nat_le c e.last
