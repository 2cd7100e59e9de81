-- Lowercases of UnicodeData.txt (UAX #44, table 9: Simple_Lowercase_Mapping, field 13).
use Rattle.std.specs.Prelude.{ℕ, List, [], ◌∷◌, ◌⊎◌, slice_index_or}
use Rattle.std.specs.List.{All, Contains}
use Rattle.np_code_points.specs.Lines.{Numbered, IsDataLine}
use Rattle.np_code_points.specs.Words.{AreWords}
use Rattle.np_code_points.specs.declared.words.Dividers.TheVariants.{Spaces}
use Rattle.np_ucd.specs.Fields.{AreFields, IsCodeOf, IsFirstName, IsLastName}
pub use Rattle.np_foldings.specs.declared.lowercases.Lowercase.{Lowercase}

-- a field by its place, from 0; empty where there are not so many
abbrev pub field_of : List (List ℕ) → ℕ → List ℕ
field_of fields at = slice_index_or fields at []

-- the record of a code point by itself, and no end of a range, whose field 13 is a code with nothing but spaces around
pub record SaysLowercase (text : List ℕ) (pair : Lowercase) : Type 0 where
  pub fields : List (List ℕ)
  pub are : AreFields text fields
  pub code : IsCodeOf (field_of fields 0) pair.code
  pub alone : IsFirstName (field_of fields 1) ⊎ IsLastName (field_of fields 1) → ⊥
  pub word : List ℕ
  pub written : AreWords Spaces (field_of fields 13) (word ∷ [])
  pub lower : IsCodeOf word pair.lower

-- a record of the file says it
abbrev pub IsLowercaseIn : List ℕ → Lowercase → Type 0
IsLowercaseIn bytes pair = (r : Numbered) × IsDataLine bytes r × SaysLowercase r.text pair

-- all of them, and nothing else
pub record AreLowercases (bytes : List ℕ) (pairs : List Lowercase) : Type 0 where
  pub each : All (IsLowercaseIn bytes) pairs
  pub all : (pair : Lowercase) → IsLowercaseIn bytes pair → Contains pairs pair
