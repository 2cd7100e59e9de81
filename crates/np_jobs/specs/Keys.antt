-- How `key` ends.
use Rattle.std.specs.Prelude.{◌≡◌, ◌⊎◌, ℕ, Bool, true, List, chars, encode_utf8_all}
use Rattle.np_code_points.specs.declared.forms.Form.{Form}
use Rattle.np_forms.specs.Assigned.{IsAssigned, IsFirstUnassigned}
use Rattle.np_forms.specs.Forms.{IsNormalForm}
use Rattle.np_versions.specs.Versions.{VersionData}
use Rattle.np_jobs.specs.Streams.{Stream}
use Rattle.np_jobs.specs.Texts.{TextEnds, TextReaders}
use Rattle.np_jobs.specs.declared.faults.TextFault.{TextFault}
use Rattle.np_jobs.specs.declared.faults.TextFault.TheVariants.{Unassigned, Memory}

-- the stabilized string of a text (UAX #15 section 12): the one normal form of an assigned text
pub record IsKeyOutput (form : Form) (v : VersionData) (text : List ℕ) (is_yes : Bool) (bytes : List ℕ) : Type 0 where
  pub assigned : IsAssigned v (chars text)
  pub list : List ℕ
  pub is : IsNormalForm v form (chars text) list
  pub bytes_are : bytes ≡ encode_utf8_all list
  pub done : is_yes ≡ true

-- the first unassigned code point; or memory ran out, where each is assigned
abbrev pub LacksKeyOutput : VersionData → List ℕ → TextFault → Type 0
LacksKeyOutput v text fault =
    ((at : ℕ) × (code : ℕ) × (fault ≡ Unassigned at code) × IsFirstUnassigned v (chars text) at code)
    ⊎ ((fault ≡ Memory) × IsAssigned v (chars text))

-- `key`: the stabilized string of the input, or why there is none
abbrev pub KeyEnds : Form → TextReaders → Stream → Stream → ℕ → Type 0
KeyEnds form readers output error status = TextEnds (IsKeyOutput form) LacksKeyOutput readers output error status
