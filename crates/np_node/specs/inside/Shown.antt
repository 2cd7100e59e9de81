-- What contracts see of the strings and keys that a node holds.
use Rattle.std.specs.Prelude.{ℕ, List, Option, Some, None, map, String, string_bytes}
use Rattle.np_node.specs.Strings.{Entry}

-- the key beside a string: that of its own memory, or else the string
abbrev pub key_beside : {A : Type 0} → List ℕ → Option (String A) → List ℕ
key_beside string None = string
key_beside string (Some key) = string_bytes key

abbrev pub entry_of : {A : Type 0} → String A × Option (String A) → Entry
entry_of p = record { string = string_bytes p.0; key = key_beside (string_bytes p.0) p.1 }

-- the entries, in the map's order
abbrev pub shown : {A : Type 0} → List (String A × Option (String A)) → List Entry
shown pairs = map entry_of pairs
