-- Images of two layouts: a name, a form's byte, in the second layout how many code points the version that saved assigns, the
-- count of the entries, and the entries.
use Rattle.std.specs.Prelude.{◌≡◌, ◌≢◌, ℕ, ◌+◌, ◌^◌, ◌<◌, ◌⊎◌, List, [], ◌∷◌, ◌++◌, length, codes, flat_map, All, Option, Some, None}
use Rattle.np_code_points.specs.Forms.{byte_of}
use Rattle.np_code_points.specs.declared.forms.Form.{Form}
use Rattle.np_node.specs.Fields.{entry_bytes, marked_bytes, number_bytes, FitsFields, IsEntryFault, IsMarkedFault, LacksForm}
use Rattle.np_node.specs.Strings.{Entry}

-- how many code points the version that saved assigns; nothing in the first layout, which doesn't tell it
abbrev pub Needs : Type 0
Needs = Option ℕ

pub record Image : Type 0 where
  pub needs : Needs
  pub form : Form
  pub entries : List Entry

abbrev pub image_name : Needs → List ℕ
image_name None = codes "NPS1"
image_name (Some count) = codes "NPS2"

abbrev pub needs_bytes : Needs → List ℕ
needs_bytes None = []
needs_bytes (Some count) = number_bytes count

-- what stands before the entries
unfoldable pub head_bytes : Needs → Form → ℕ → List ℕ
head_bytes needs form count = image_name needs ++ byte_of form ∷ (needs_bytes needs ++ number_bytes count)

-- an entry, as the layout spells it
abbrev pub spelled_entry : Needs → Entry → List ℕ
spelled_entry None e = entry_bytes e
spelled_entry (Some count) e = marked_bytes e

-- the entries, one behind the other
unfoldable pub entries_bytes : Needs → List Entry → List ℕ
entries_bytes needs entries = flat_map (spelled_entry needs) entries

-- the one spelling of an image
unfoldable pub image_bytes : Image → List ℕ
image_bytes i = head_bytes i.needs i.form (length i.entries) ++ entries_bytes i.needs i.entries

-- the count of code points is a number of four bytes
abbrev pub FitsNeeds : Needs → Type 0
FitsNeeds None = Unit {0}
FitsNeeds (Some count) = count < 2 ^ 32

-- the bytes are the spelling of the image
pub record IsImage (bytes : List ℕ) (i : Image) : Type 0 where
  pub needs : FitsNeeds i.needs
  pub count : length i.entries < 2 ^ 32
  pub fits : All FitsFields i.entries
  pub spelling : bytes ≡ image_bytes i

-- ---- the fault place of bytes that are no image: `at` is the offset of the first field that isn't whole or isn't
-- allowed, or of the first byte behind a whole image

-- neither name is in front
pub record HasNoName (bytes : List ℕ) (at : ℕ) : Type 0 where
  pub lacks : (needs : Needs) (rest : List ℕ) → bytes ≢ image_name needs ++ rest
  pub place : at ≡ 0

-- behind a name, there is no form's byte
pub record NamesNoForm (bytes : List ℕ) (at : ℕ) : Type 0 where
  pub needs : Needs
  pub rest : List ℕ
  pub split : bytes ≡ image_name needs ++ rest
  pub lacks : LacksForm rest
  pub place : at ≡ 4

-- behind the form's byte of the second layout, the count of code points isn't whole
pub record TellsNoNeeds (bytes : List ℕ) (at : ℕ) : Type 0 where
  pub form : Form
  pub rest : List ℕ
  pub split : bytes ≡ codes "NPS2" ++ byte_of form ∷ rest
  pub short : length rest < 4
  pub place : at ≡ 5

-- the count of the entries isn't whole
pub record HasNoCount (bytes : List ℕ) (at : ℕ) : Type 0 where
  pub needs : Needs
  pub form : Form
  pub rest : List ℕ
  pub fits : FitsNeeds needs
  pub split : bytes ≡ image_name needs ++ byte_of form ∷ (needs_bytes needs ++ rest)
  pub short : length rest < 4
  pub place : at ≡ 5 + length (needs_bytes needs)

-- no whole entry is in front, as the layout spells them
abbrev pub IsSpellingFault : Needs → List ℕ → ℕ → Type 0
IsSpellingFault None bytes at = IsEntryFault bytes at
IsSpellingFault (Some count) bytes at = IsMarkedFault bytes at

-- fewer whole entries than the count promises, and behind them one that isn't whole
pub record HasFewerEntries (bytes : List ℕ) (at : ℕ) : Type 0 where
  pub needs : Needs
  pub form : Form
  pub count : ℕ
  pub entries : List Entry
  pub rest : List ℕ
  pub inner : ℕ
  pub needs_fits : FitsNeeds needs
  pub small : count < 2 ^ 32
  pub fits : All FitsFields entries
  pub split : bytes ≡ head_bytes needs form count ++ (entries_bytes needs entries ++ rest)
  pub fewer : length entries < count
  pub fault : IsSpellingFault needs rest inner
  pub place : at ≡ length (head_bytes needs form count) + length (entries_bytes needs entries) + inner

-- bytes follow a whole image
pub record HasMoreBehind (bytes : List ℕ) (at : ℕ) : Type 0 where
  pub image : Image
  pub rest : List ℕ
  pub needs : FitsNeeds image.needs
  pub count : length image.entries < 2 ^ 32
  pub fits : All FitsFields image.entries
  pub split : bytes ≡ image_bytes image ++ rest
  pub more : 0 < length rest
  pub place : at ≡ length (image_bytes image)

abbrev pub IsImageFault : List ℕ → ℕ → Type 0
IsImageFault bytes at =
    HasNoName bytes at ⊎ (NamesNoForm bytes at ⊎ (TellsNoNeeds bytes at ⊎ (HasNoCount bytes at ⊎ (HasFewerEntries bytes at ⊎ HasMoreBehind bytes at))))
