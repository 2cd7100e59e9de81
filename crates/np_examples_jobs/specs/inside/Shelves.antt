-- Files in memory that have names, by what tells a file's name and what it holds.
use Rattle.std.specs.Prelude.{◌≡◌, ℕ, List, [], ◌∷◌, Option, Some, None, IsSome, if◌then◌else◌}
use Rattle.std.specs.Str.{bytes_eq}

module _ {A : Type 0} (name_of text_of : A → List ℕ) where
  -- what the first file of this name holds
  abbrev pub text_named : List A → List ℕ → Option (List ℕ)
  text_named [] name = None
  text_named (file ∷ files) name = if bytes_eq (name_of file) name then Some (text_of file) else text_named files name

  -- a file of this name is there, and an opened one has these contents: all that it holds
  abbrev pub HoldsUnder : List A → List ℕ → Option (List ℕ) → Type 0
  HoldsUnder files name contents = IsSome contents × (text_named files name ≡ contents)

  -- no file of this name is there
  abbrev pub LacksAll : List A → List ℕ → Type 0
  LacksAll files name = text_named files name ≡ None
