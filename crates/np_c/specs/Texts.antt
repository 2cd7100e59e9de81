-- Texts as C hands them over, and what is made of them.
use Rattle.std.specs.Prelude.{◌≡◌, ◌⊎◌, ℕ, List, chars, encode_utf8_all, IsUtf8}
use Rattle.np_code_points.specs.Forms.{byte_of}
use Rattle.np_code_points.specs.declared.forms.Form.{Form}
use Rattle.np_code_points.specs.Text.{IsLongestValidPrefix}
use Rattle.np_forms.specs.Assigned.{IsAssigned, IsFirstUnassigned}
use Rattle.np_forms.specs.Forms.{IsNormalForm}
use Rattle.np_versions.specs.Versions.{VersionData}
use Rattle.np_c.specs.Statuses.{alone}
use Rattle.np_c.specs.declared.answers.Answer.{Answer}

-- a letter stands for a form: D, C, d or c
abbrev pub IsFormLetter : ℕ → Type 0
IsFormLetter letter = (form : Form) × (letter ≡ byte_of form)

-- the bytes are no text behind their longest front that is one; `fault` is the number of the text
pub record IsNoText (number : ℕ) (bytes : List ℕ) (a : Answer) : Type 0 where
  pub told : a ≡ record { status = 2; fault = number; code = 0; place = a.place; length = 0 }
  pub invalid : ¬ (IsUtf8 bytes)
  pub place : IsLongestValidPrefix bytes a.place

-- the bytes are a text, and `made` are those of its normal form (The Unicode Standard, D118 to D121)
pub record IsFormOf (v : VersionData) (form : Form) (bytes made : List ℕ) : Type 0 where
  pub valid : IsUtf8 bytes
  pub codes : List ℕ
  pub is : IsNormalForm v form (chars bytes) codes
  pub bytes_are : made ≡ encode_utf8_all codes

-- the same of a text whose code points are assigned: its stabilized string (UAX #15, section 12)
pub record IsKeyOf (v : VersionData) (form : Form) (bytes made : List ℕ) : Type 0 where
  pub assigned : IsAssigned v (chars bytes)
  pub is : IsFormOf v form bytes made

-- the first code point of the text that is not assigned
pub record IsUnassigned (v : VersionData) (bytes : List ℕ) (a : Answer) : Type 0 where
  pub told : a ≡ record { status = 1; fault = 0; code = a.code; place = a.place; length = 0 }
  pub valid : IsUtf8 bytes
  pub first : IsFirstUnassigned v (chars bytes) a.place a.code

-- memory ran out, though the bytes are a text whose code points are assigned
pub record IsKeyRefused (v : VersionData) (bytes : List ℕ) (a : Answer) : Type 0 where
  pub told : a ≡ alone 4
  pub valid : IsUtf8 bytes
  pub assigned : IsAssigned v (chars bytes)

-- memory ran out, though the bytes are a text
pub record IsFormRefused (bytes : List ℕ) (a : Answer) : Type 0 where
  pub told : a ≡ alone 4
  pub valid : IsUtf8 bytes

-- why there is no key of bytes
abbrev pub IsNoKey : VersionData → List ℕ → Answer → Type 0
IsNoKey v bytes a = IsNoText 0 bytes a ⊎ (IsUnassigned v bytes a ⊎ IsKeyRefused v bytes a)

-- why there is no normal form of bytes
abbrev pub IsNoForm : List ℕ → Answer → Type 0
IsNoForm bytes a = IsNoText 0 bytes a ⊎ IsFormRefused bytes a
