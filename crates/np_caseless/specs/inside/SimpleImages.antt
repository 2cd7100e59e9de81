-- Images that have as many bytes as what they stand for.
use Rattle.std.specs.Prelude.{◌≡◌, ◌≢◌, ℕ, ◌+◌, ◌/◌, ◌%◌, ◌<◌, ◌≤◌, true, List, [], ◌∷◌, ◌++◌, chars, drop, encode_utf8, get_or, length, take, IsUtf8}
use Rattle.std.specs.Char.{to_ascii_lowercase}
use Rattle.np_code_points.specs.Forms.{is_compat}
use Rattle.np_code_points.specs.declared.forms.Form.{Form}
use Rattle.np_code_points.specs.declared.forms.Form.TheVariants.{Nfd, Nfc, Nfkd, Nfkc}
use Rattle.np_forms.specs.Assigned.{IsAssigned}
use Rattle.np_forms.specs.Forms.{IsNormalForm}
use Rattle.np_versions.specs.Boundaries.{BeginsAtBoundary}
use Rattle.np_versions.specs.Versions.{VersionData}
use Rattle.np_caseless.specs.Folded.{FoldedVersion}
use Rattle.np_caseless.specs.SimpleKeys.{AddsNoControl}
use Rattle.np_caseless.specs.inside.Images.{AreImages}
use Rattle.np_caseless.specs.inside.ImageTables.{AreAllImages}
use Rattle.np_caseless.specs.declared.image_tables.Images.{Images}
use Rattle.np_caseless.specs.declared.simple_images.SimpleImage.{SimpleImage}
use Rattle.np_caseless.specs.declared.simple_images.SimpleImages.{SimpleImages}

-- a text is assigned, and its own form, which begins at a boundary
pub record IsApart (v : FoldedVersion) (form : Form) (bytes : List ℕ) : Type 0 where
  pub begins : BeginsAtBoundary v.version form (chars bytes)
  pub own : IsNormalForm v.version form (chars bytes) (chars bytes)
  pub assigned : IsAssigned v.version (chars bytes)

-- these bytes stand for a code point in each caseless key of the form, whatever is around it
pub record StandsFor (v : FoldedVersion) (form : Form) (c : ℕ) (bytes : List ℕ) : Type 0 where
  pub utf8 : IsUtf8 bytes
  pub images : AreImages v (is_compat form) (c ∷ []) (chars bytes)
  pub apart : IsApart v form bytes
  pub ends : AddsNoControl (encode_utf8 c) bytes

-- the first so many bytes of an image
abbrev pub bytes_of : ℕ → SimpleImage → List ℕ
bytes_of count image = take count (image.bytes % 256 ∷ image.bytes / 256 % 256 ∷ image.bytes / 65536 % 256 ∷ [])

-- an image that is known has as many bytes as the code point, and they stand for it
abbrev pub IsSimple : FoldedVersion → Form → ℕ → SimpleImage → Type 0
IsSimple v form c image = image.bytes ≢ 0 → StandsFor v form c (bytes_of (length (encode_utf8 c)) image)

-- the one of a code point in a list
abbrev pub listed : List SimpleImage → ℕ → SimpleImage
listed list c = get_or list c (record { bytes = 0 })

-- each at its code point
abbrev pub AreSimple : FoldedVersion → Form → List SimpleImage → Type 0
AreSimple v form list = (c : ℕ) → c < length list → IsSimple v form c (listed list c)

-- each character of ASCII has its lowercase
abbrev pub LowerAscii : List SimpleImage → Type 0
LowerAscii list = (c : ℕ) → c < 128 → (listed list c).bytes ≡ 0x1000000 + to_ascii_lowercase c

-- images of the kind of the form make one list of such images into another
abbrev pub MayBecome : VersionData → Images → Form → List SimpleImage → List SimpleImage → Type 0
MayBecome version images form before after =
    (v : FoldedVersion) → v.version ≡ version → AreAllImages v (is_compat form) images → AreSimple v form before → AreSimple v form after

-- those of a form
pub record AreOfForm (v : FoldedVersion) (form : Form) (list : List SimpleImage) : Type 0 where
  pub size : length list ≡ 0x3000
  pub simple : AreSimple v form list

-- those of each form
pub record AreOfForms (v : FoldedVersion) (images : SimpleImages) : Type 0 where
  pub nfd : AreOfForm v Nfd images.nfd.items
  pub nfc : AreOfForm v Nfc images.nfc.items
  pub nfkd : AreOfForm v Nfkd images.nfkd.items
  pub nfkc : AreOfForm v Nfkc images.nfkc.items

-- where the lists are told to have the lowercases of ASCII, each has
pub record AreLowered (images : SimpleImages) : Type 0 where
  pub nfd : images.lowers ≡ true → LowerAscii images.nfd.items
  pub nfc : images.lowers ≡ true → LowerAscii images.nfc.items
  pub nfkd : images.lowers ≡ true → LowerAscii images.nfkd.items
  pub nfkc : images.lowers ≡ true → LowerAscii images.nfkc.items

-- at a place in a text a character begins, which has so many bytes
pub record IsCodeAt (text : List ℕ) (at count code : ℕ) : Type 0 where
  pub begins : drop at text ≡ encode_utf8 code ++ drop (at + count) text
  pub long : at + count ≤ length text
  pub size : length (encode_utf8 code) ≡ count
