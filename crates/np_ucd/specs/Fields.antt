-- The fields of a record of UnicodeData.txt, and what single ones say (UAX #44, section 4.2 and table 9).
use Rattle.std.specs.Prelude.{◌≡◌, ◌≢◌, ℕ, ◌≤◌, List, [], ◌∷◌, ◌++◌, length, codes, Some, ◌⊎◌}
use Rattle.std.specs.List.{All, join_with_byte}
use Rattle.std.specs.Str.Parse.{digits_value}
use Rattle.np_code_points.specs.Codes.{code_value}
use Rattle.np_code_points.specs.Lines.{HasNo}

-- The fields of a record, at least one: ';' (59) stands between two of them, and in none.
pub record AreFields (text : List ℕ) (fields : List (List ℕ)) : Type 0 where
  pub some : fields ≢ []
  pub free : All (HasNo 59) fields
  pub joined : text ≡ join_with_byte 59 fields

-- Those that are read: the code point, the name, General_Category, Canonical_Combining_Class, and
-- Decomposition_Type with Decomposition_Mapping.
pub record Fields : Type 0 where
  pub code : List ℕ
  pub name : List ℕ
  pub category : List ℕ
  pub class : List ℕ
  pub mapping : List ℕ

-- a record has fifteen fields, and these are read, the mapping behind Bidi_Class
pub record HasFields (text : List ℕ) (f : Fields) : Type 0 where
  pub bidi : List ℕ
  pub more : List (List ℕ)
  pub are : AreFields text (f.code ∷ f.name ∷ f.category ∷ f.class ∷ bidi ∷ f.mapping ∷ more)
  pub count : length more ≡ 9

-- a code point: four to six hex digits, at most 10FFFF
abbrev pub IsCodeOf : List ℕ → ℕ → Type 0
IsCodeOf field code = code_value field ≡ Some code

-- an ASCII letter
abbrev pub IsLetter : ℕ → Type 0
IsLetter b = ((65 ≤ b) × (b ≤ 90)) ⊎ ((97 ≤ b) × (b ≤ 122))

-- General_Category: two ASCII letters, not `Cn`, which no listed code point has
pub record IsCategory (field : List ℕ) : Type 0 where
  pub first : ℕ
  pub second : ℕ
  pub are : field ≡ first ∷ second ∷ []
  pub first_letter : IsLetter first
  pub second_letter : IsLetter second
  pub assigned : field ≢ codes "Cn"

abbrev pub IsDigit : ℕ → Type 0
IsDigit b = (48 ≤ b) × (b ≤ 57)

-- Canonical_Combining_Class: 1 to 3 decimal digits, at most 254
pub record IsClassOf (field : List ℕ) (class : ℕ) : Type 0 where
  pub some : 1 ≤ length field
  pub few : length field ≤ 3
  pub digits : All IsDigit field
  pub value : class ≡ digits_value 10 field
  pub bound : class ≤ 254

-- the names of the first record of a range and of the last one end so (section 4.2.3)
abbrev pub IsFirstName : List ℕ → Type 0
IsFirstName name = (front : List ℕ) × (name ≡ front ++ codes ", First>")

abbrev pub IsLastName : List ℕ → Type 0
IsLastName name = (front : List ℕ) × (name ≡ front ++ codes ", Last>")
