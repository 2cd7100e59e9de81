-- How each call ends. The status and what stands beside it tell which of the cases it was.
use Rattle.std.specs.Prelude.{◌≡◌, ◌⊎◌, ◌++◌, ◌<◌, ◌≤◌, ℕ, Bool, List, Option, Some, None, chars, drop, length, IsUtf8}
use Rattle.np_chain.specs.Breaks.{IsFirstBreak, number_of}
use Rattle.np_chain.specs.Extension.{Extends}
use Rattle.np_chain.specs.declared.breaks.Break.{Break}
use Rattle.np_code_points.specs.Forms.{byte_of}
use Rattle.np_code_points.specs.declared.forms.Form.{Form}
use Rattle.np_forms.specs.Forms.{IsEquivalent, IsNormalForm}
use Rattle.np_versions.specs.Versions.{VersionData}
use Rattle.np_c.specs.Files.{IsNoVersion, IsVersionOf}
use Rattle.np_c.specs.Statuses.{alone}
use Rattle.np_c.specs.Texts.{IsFormLetter, IsFormOf, IsKeyOf, IsNoForm, IsNoKey, IsNoText}
use Rattle.np_c.specs.Versions.{version_in}
use Rattle.np_c.specs.declared.answers.Answer.{Answer}
use Rattle.np_c.specs.declared.content.Content.{Content}

-- ---- what is written

-- these bytes stand at the front of the room, and behind them nothing changed
pub record IsWritten (made before after : List ℕ) (a : Answer) : Type 0 where
  pub status : a.status ≡ 0
  pub fits : length made ≤ length before
  pub room : after ≡ made ++ drop (length made) before
  pub told : a.length ≡ length made

-- the room is too small for these bytes, and nothing changed
pub record IsTooSmall (made before after : List ℕ) (a : Answer) : Type 0 where
  pub status : a.status ≡ 3
  pub lacks : length before < length made
  pub room : after ≡ before
  pub told : a.length ≡ length made

abbrev pub IsPut : List ℕ → List ℕ → List ℕ → Answer → Type 0
IsPut made before after a = IsWritten made before after a ⊎ IsTooSmall made before after a

-- a status and a length
abbrev pub told_length : ℕ → ℕ → Answer
told_length status length = record { status = status; fault = 0; code = 0; place = 0; length = length }

-- the same, and beside it a place is told and nothing else
pub record IsPutTelling (place : ℕ) (made before after : List ℕ) (a : Answer) : Type 0 where
  pub put : IsPut made before after a
  pub at : a.place ≡ place
  pub fault : a.fault ≡ 0
  pub code : a.code ≡ 0

-- the letter is none, and nothing changed
pub record LacksForm (letter : ℕ) (before after : List ℕ) (a : Answer) : Type 0 where
  pub told : a ≡ alone 6
  pub none : ¬ (IsFormLetter letter)
  pub room : after ≡ before

-- what is made of a text under a form is put into the room; or there is none, and nothing changed
pub record IsMade (Makes : List ℕ → Type 0) (IsNone : Answer → Type 0) (before after : List ℕ) (a : Answer) : Type 0 where
  pub how : ((made : List ℕ) × Makes made × IsPutTelling 0 made before after a) ⊎ (IsNone a × (after ≡ before))

-- `npss_key`: the letter is that of a form, and the key under it is put into the room
abbrev pub IsKeyAnswer : VersionData → ℕ → List ℕ → List ℕ → List ℕ → Answer → Type 0
IsKeyAnswer v letter bytes before after a =
    LacksForm letter before after a ⊎ ((form : Form) × (letter ≡ byte_of form) × IsMade (IsKeyOf v form bytes) (IsNoKey v bytes) before after a)

-- `npss_normalize`: the same with the normal form
abbrev pub IsFormAnswer : VersionData → ℕ → List ℕ → List ℕ → List ℕ → Answer → Type 0
IsFormAnswer v letter bytes before after a =
    LacksForm letter before after a ⊎ ((form : Form) × (letter ≡ byte_of form) × IsMade (IsFormOf v form bytes) (IsNoForm bytes) before after a)

-- ---- questions

-- yes, with status 0, or no, with status 11
abbrev pub Tells : Type 0 → Answer → Type 0
Tells P a = ((a ≡ alone 0) × P) ⊎ ((a ≡ alone 11) × (¬ P))

-- `npss_is_form`: whether a text is its own normal form
abbrev pub IsOwnFormAnswer : VersionData → ℕ → List ℕ → Answer → Type 0
IsOwnFormAnswer v letter bytes a =
    ((a ≡ alone 6) × (¬ (IsFormLetter letter)))
    ⊎ ((form : Form) × (letter ≡ byte_of form) × ((IsUtf8 bytes × Tells (IsNormalForm v form (chars bytes) (chars bytes)) a) ⊎ IsNoForm bytes a))

-- `npss_equivalent`: whether two texts are equivalent (The Unicode Standard, D70, or D67 where compatible ones are asked for)
pub record AreEquivalentAnswer (v : VersionData) (compat : Bool) (left right : List ℕ) (a : Answer) : Type 0 where
  pub valid_left : IsUtf8 left
  pub valid_right : IsUtf8 right
  pub told : Tells (IsEquivalent v compat (chars left) (chars right)) a ⊎ (a ≡ alone 4)

abbrev pub IsEquivalentAnswer : VersionData → Bool → List ℕ → List ℕ → Answer → Type 0
IsEquivalentAnswer v compat left right a =
    IsNoText 1 left a ⊎ ((IsUtf8 left × IsNoText 2 right a) ⊎ AreEquivalentAnswer v compat left right a)

-- a break, by the number of its kind, at its code point
abbrev pub told_break : Break → Answer
told_break first = record { status = 11; fault = number_of first.kind; code = first.code; place = 0; length = 0 }

-- `npss_extends`: the newer version extends the older one; or the break at the least code point that has one, by the number of its kind
pub record IsBreakAnswer (old new : VersionData) (a : Answer) : Type 0 where
  pub first : Break
  pub is : IsFirstBreak old new first
  pub told : a ≡ told_break first

abbrev pub IsExtensionAnswer : VersionData → VersionData → Answer → Type 0
IsExtensionAnswer old new a = ((a ≡ alone 0) × Extends old new) ⊎ IsBreakAnswer old new a

-- ---- handles

-- `npss_open`: the version of the two files is what is opened; or nothing is, and they make none, or memory ran out
abbrev pub IsOpenAnswer : List ℕ → List ℕ → Option Content → Answer → Type 0
IsOpenAnswer data_file exclusions_file opened a =
    ((a ≡ alone 0) × ((v : VersionData) × (version_in opened ≡ Some v) × IsVersionOf data_file exclusions_file v))
    ⊎ ((opened ≡ None) × IsNoVersion data_file exclusions_file a)

-- `npss_share`: the same version is what is opened; or nothing is, and memory ran out
abbrev pub IsShareAnswer : VersionData → Option Content → Answer → Type 0
IsShareAnswer v opened a = ((a ≡ alone 0) × (version_in opened ≡ Some v)) ⊎ ((a ≡ alone 4) × (opened ≡ None))
