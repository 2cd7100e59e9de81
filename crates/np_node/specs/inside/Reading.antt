-- What a reader of fields has left.
use Rattle.std.specs.Prelude.{◌≡◌, ℕ, ◌+◌, List, ◌++◌, length, drop}
use Rattle.np_node.specs.Strings.{Entry}
use Rattle.np_node.specs.declared.fields.Fields.{Fields}
use Rattle.np_node.specs.declared.fields.Told.{Told}

-- the bytes that are still to be read
abbrev pub left_of : Fields → List ℕ
left_of f = drop f.at f.bytes.now

-- the reader went over xs
pub record Passes (old new : Fields) (xs : List ℕ) : Type 0 where
  pub bytes : new.bytes ≡ old.bytes
  pub split : left_of old ≡ xs ++ left_of new
  pub place : new.at ≡ old.at + length xs

-- the string and the key that stand in a message or an image
abbrev pub told_entry : Told → Entry
told_entry told = record { string = told.string.now; key = told.key.now }
