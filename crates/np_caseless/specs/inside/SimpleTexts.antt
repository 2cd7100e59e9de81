-- Texts of which each code point has an image that is as long.
use Rattle.std.specs.Prelude.{◌≡◌, ◌≢◌, ◌⊎◌, ℕ, ◌+◌, ◌<◌, ◌≤◌, Bool, true, false, List, [], ◌∷◌, ◌++◌, drop, encode_utf8, encode_utf8_all, get_or, length, map, take, IsUtf8}
use Rattle.std.specs.Char.{to_ascii_lowercase}
use Rattle.std.specs.Int.{bit_at}
use Rattle.np_code_points.specs.Forms.{is_compat}
use Rattle.np_code_points.specs.declared.forms.Form.{Form}
use Rattle.np_forms.specs.Assigned.{IsAssigned}
use Rattle.np_forms.specs.inside.NormalForms.{normal_form}
use Rattle.np_forms.specs.inside.Readings.{IsRead}
use Rattle.np_caseless.specs.Folded.{FoldedVersion}
use Rattle.np_caseless.specs.SimpleKeys.{AddsNoControl}
use Rattle.np_caseless.specs.inside.Images.{AreImages}
use Rattle.np_caseless.specs.inside.ImageTables.{IsMarked}
use Rattle.np_caseless.specs.inside.SimpleImages.{bytes_of, listed}
use Rattle.np_caseless.specs.declared.simple_images.SimpleImage.{SimpleImage}
use Rattle.np_caseless.specs.declared.simple_texts.KnownImages.{KnownImages}

-- each code point that is marked is its own image
abbrev pub AreOwn : FoldedVersion → Bool → List ℕ → Type 0
AreOwn v compat own = (c : ℕ) → IsMarked own c → AreImages v compat (c ∷ []) (c ∷ [])

-- the simple image of a code point, which is known, in so many bytes
pub record IsKnownImage (simple : List SimpleImage) (code count : ℕ) (piece : List ℕ) : Type 0 where
  pub within : code < length simple
  pub known : (listed simple code).bytes ≢ 0
  pub bytes : piece ≡ bytes_of count (listed simple code)

-- a code point itself, which is marked as its own image
pub record IsKept (own : List ℕ) (code : ℕ) (piece : List ℕ) : Type 0 where
  pub marked : IsMarked own code
  pub bytes : piece ≡ encode_utf8 code

-- bytes stand for a code point, and are as many; where they are told to stand apart, they are its simple image
pub record IsStandIn (known : KnownImages) (apart : Bool) (code : ℕ) (piece : List ℕ) : Type 0 where
  pub size : length piece ≡ length (encode_utf8 code)
  pub is : IsKnownImage known.simple.now code (length (encode_utf8 code)) piece ⊎ ((apart ≡ false) × IsKept known.own.now code piece)

-- bytes stand for code points, one behind the other
abbrev pub AreStandIns : KnownImages → Bool → List ℕ → List ℕ → Type 0
AreStandIns known apart [] made = made ≡ []
AreStandIns known apart (code ∷ codes) made =
    (piece : List ℕ) × (later : List ℕ) × (made ≡ piece ++ later) × IsStandIn known apart code piece × AreStandIns known apart codes later

-- up to a place the room has what stands for the code points of a text, and behind it the bytes of the text, with the lowercases of ASCII
pub record AreMade (known : KnownImages) (text room : List ℕ) (at : ℕ) (apart : Bool) : Type 0 where
  pub within : at ≤ length text
  pub size : length room ≡ length text
  pub behind : drop at room ≡ map to_ascii_lowercase (drop at text)
  pub read : List ℕ
  pub reads : IsRead text (drop at text) read
  pub made : AreStandIns known apart read (take at room)

-- of the bytes of a text from one place on up to another those have a bit that begin characters of several bytes, but for those before `end`
pub record AreLeads (text : List ℕ) (end from to bits : ℕ) : Type 0 where
  pub set : (k : ℕ) → bit_at bits k ≡ 1 → 192 ≤ get_or text (from + k) 0
  pub behind : (k : ℕ) → bit_at bits k ≡ 1 → end ≤ from + k
  pub before : (k : ℕ) → bit_at bits k ≡ 1 → from + k < to
  pub clear : (k : ℕ) → bit_at bits k ≡ 0 → end ≤ from + k → from + k < to → get_or text (from + k) 0 < 192

-- bytes are those that stand for what was read of a text; where they are told to stand apart, they are assigned and their own form
pub record IsMadeOfFront (v : FoldedVersion) (form : Form) (apart : Bool) (text rest made : List ℕ) : Type 0 where
  pub read : List ℕ
  pub ys : List ℕ
  pub reads : IsRead text rest read
  pub bytes : made ≡ encode_utf8_all ys
  pub utf8 : IsUtf8 made
  pub images : AreImages v (is_compat form) read ys
  pub own : apart ≡ true → normal_form v.version form ys ≡ ys
  pub assigned : apart ≡ true → IsAssigned v.version ys
  pub ends : AddsNoControl (encode_utf8_all read) made
