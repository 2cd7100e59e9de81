-- The fields of messages and images: numbers, and lists of bytes behind their length.
use Rattle.std.specs.Prelude.{◌≡◌, ◌≢◌, ℕ, ◌+◌, ◌^◌, ◌<◌, ◌⊎◌, List, [], ◌∷◌, ◌++◌, length, if◌then◌else◌}
use Rattle.std.specs.Int.{to_be_bytes, w32}
use Rattle.std.specs.Str.{bytes_eq}
use Rattle.np_code_points.specs.Forms.{byte_of}
use Rattle.np_code_points.specs.declared.forms.Form.{Form}
use Rattle.np_node.specs.Strings.{Entry}

-- a number as four bytes, the highest first
unfoldable pub number_bytes : ℕ → List ℕ
number_bytes n = to_be_bytes w32 n

-- a list of bytes behind its length
unfoldable pub field_bytes : List ℕ → List ℕ
field_bytes xs = number_bytes (length xs) ++ xs

-- a string and its key, each a field
unfoldable pub entry_bytes : Entry → List ℕ
entry_bytes e = field_bytes e.string ++ field_bytes e.key

-- what tells the key behind its string: the marker 0 where the key is the string, else the marker 1 and the key
unfoldable pub key_bytes : Entry → List ℕ
key_bytes e = if bytes_eq e.key e.string then 0 ∷ [] else 1 ∷ field_bytes e.key

-- a string, and what tells its key
unfoldable pub marked_bytes : Entry → List ℕ
marked_bytes e = field_bytes e.string ++ key_bytes e

-- the lengths of a string and its key are numbers of four bytes
pub record FitsFields (e : Entry) : Type 0 where
  pub string : length e.string < 2 ^ 32
  pub key : length e.key < 2 ^ 32

-- ---- where bytes stop being fields: `at` is the offset of what isn't whole

-- there are too few bytes for a number
pub record LacksNumber (bytes : List ℕ) (at : ℕ) : Type 0 where
  pub short : length bytes < 4
  pub place : at ≡ 0

-- a length promises more bytes than follow it
pub record LacksBytes (bytes : List ℕ) (at : ℕ) : Type 0 where
  pub count : ℕ
  pub rest : List ℕ
  pub fits : count < 2 ^ 32
  pub split : bytes ≡ number_bytes count ++ rest
  pub short : length rest < count
  pub place : at ≡ 4

-- no whole field is in front
abbrev pub IsFieldFault : List ℕ → ℕ → Type 0
IsFieldFault bytes at = LacksNumber bytes at ⊎ LacksBytes bytes at

-- a string is in front, and no whole key follows it
pub record LacksKeyField (bytes : List ℕ) (at : ℕ) : Type 0 where
  pub string : List ℕ
  pub rest : List ℕ
  pub inner : ℕ
  pub fits : length string < 2 ^ 32
  pub split : bytes ≡ field_bytes string ++ rest
  pub fault : IsFieldFault rest inner
  pub place : at ≡ length (field_bytes string) + inner

-- no whole string and key are in front
abbrev pub IsEntryFault : List ℕ → ℕ → Type 0
IsEntryFault bytes at = IsFieldFault bytes at ⊎ LacksKeyField bytes at

-- a string is in front, and neither marker behind it
pub record LacksMarker (bytes : List ℕ) (at : ℕ) : Type 0 where
  pub string : List ℕ
  pub rest : List ℕ
  pub fits : length string < 2 ^ 32
  pub split : bytes ≡ field_bytes string ++ rest
  pub lacks : (more : List ℕ) → (rest ≢ 0 ∷ more) × (rest ≢ 1 ∷ more)
  pub place : at ≡ length (field_bytes string)

-- a string and the marker 1 are in front, and no whole key follows them
pub record LacksOtherKey (bytes : List ℕ) (at : ℕ) : Type 0 where
  pub string : List ℕ
  pub rest : List ℕ
  pub inner : ℕ
  pub fits : length string < 2 ^ 32
  pub split : bytes ≡ field_bytes string ++ 1 ∷ rest
  pub fault : IsFieldFault rest inner
  pub place : at ≡ length (field_bytes string) + 1 + inner

-- a string, the marker 1 and the string once more are in front: the marker isn't allowed there
pub record RepeatsString (bytes : List ℕ) (at : ℕ) : Type 0 where
  pub string : List ℕ
  pub rest : List ℕ
  pub fits : length string < 2 ^ 32
  pub split : bytes ≡ field_bytes string ++ 1 ∷ (field_bytes string ++ rest)
  pub place : at ≡ length (field_bytes string)

-- no whole string with what tells its key is in front
abbrev pub IsMarkedFault : List ℕ → ℕ → Type 0
IsMarkedFault bytes at = IsFieldFault bytes at ⊎ (LacksMarker bytes at ⊎ (LacksOtherKey bytes at ⊎ RepeatsString bytes at))

-- no form's byte is in front
abbrev pub LacksForm : List ℕ → Type 0
LacksForm bytes = (form : Form) (rest : List ℕ) → bytes ≢ byte_of form ∷ rest
