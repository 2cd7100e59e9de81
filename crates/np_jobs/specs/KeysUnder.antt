-- How `key --check-under` ends.
use Rattle.std.specs.Prelude.{◌≡◌, ◌⊎◌, ℕ, Bool, true, List, [], ◌∷◌, chars, codes}
use Rattle.np_chain.specs.Breaks.{IsFirstBreak}
use Rattle.np_chain.specs.Extension.{Extends}
use Rattle.np_chain.specs.declared.breaks.Break.{Break}
use Rattle.np_code_points.specs.declared.forms.Form.{Form}
use Rattle.np_forms.specs.Assigned.{IsAssigned, IsFirstUnassigned}
use Rattle.np_forms.specs.Forms.{IsNormalForm}
use Rattle.np_versions.specs.Versions.{VersionData}
use Rattle.np_jobs.specs.Chains.{LacksOne, VersionReaders, WereBuilt}
use Rattle.np_jobs.specs.Ends.{JobEnds}
use Rattle.np_jobs.specs.Keys.{LacksKeyOutput}
use Rattle.np_jobs.specs.Streams.{Stream, IsUntouched}
use Rattle.np_jobs.specs.Tellings.{unassigned_line}
use Rattle.np_jobs.specs.Texts.{IsMadeOfText, IsTextFault}
use Rattle.np_jobs.specs.Wraps.{Wraps}
use Rattle.np_jobs.specs.declared.faults.JobFault.{JobFault}
use Rattle.np_jobs.specs.declared.faults.JobFault.TheVariants.{Version, NotExtension, Text}

-- the readers of the job: the two files of the old version and of the new one, and the input
pub record UnderReaders : Type 0 where
  pub versions : List VersionReaders
  pub input : Stream

-- what is said of a key: it is its own form under the old version; and where that lacks a code point of it, the first such place
-- in the key's bytes
abbrev pub SaysOwn : VersionData → List ℕ → List ℕ → Type 0
SaysOwn old key bytes =
    (IsAssigned old key × (bytes ≡ codes "own form\n"))
    ⊎ ((at : ℕ) × (code : ℕ) × IsFirstUnassigned old key at code × (bytes ≡ unassigned_line (codes "own form, ") at code))

-- the stabilized string of a text under the new version is its own form under the old one, and that is said
pub record IsKeyUnder (form : Form) (old new : VersionData) (text : List ℕ) (is_yes : Bool) (bytes : List ℕ) : Type 0 where
  pub assigned : IsAssigned new (chars text)
  pub key : List ℕ
  pub is : IsNormalForm new form (chars text) key
  pub own : IsNormalForm old form key key
  pub says : SaysOwn old key bytes
  pub done : is_yes ≡ true

-- both versions were built, the new one extends the old one, and the input was answered
pub record MakesUnder (form : Form) (readers : UnderReaders) (is_yes : Bool) (bytes : List ℕ) : Type 0 where
  pub old : VersionData
  pub new : VersionData
  pub built : WereBuilt readers.versions (old ∷ new ∷ [])
  pub extends : Extends old new
  pub made : IsMadeOfText (IsKeyUnder form old new) readers.input is_yes bytes

-- the new version doesn't extend the old one, and the input was not looked at; or it does, and the input is refused
abbrev pub RefusesPair : VersionData → VersionData → Stream → JobFault → Type 0
RefusesPair old new input fault =
    ((brk : Break) × (fault ≡ NotExtension 1 brk) × IsFirstBreak old new brk × IsUntouched input)
    ⊎ (Extends old new × Wraps Text (IsTextFault (LacksKeyOutput new) input) fault)

-- a version was refused, and the input not looked at; or both were built, and the pair or the input is refused
abbrev pub RefusesUnder : UnderReaders → JobFault → Type 0
RefusesUnder readers fault =
    (Wraps Version (LacksOne readers.versions) fault × IsUntouched readers.input)
    ⊎ ((old : VersionData) × (new : VersionData) × WereBuilt readers.versions (old ∷ new ∷ []) × RefusesPair old new readers.input fault)

-- `key --check-under`: what an earlier version has of the stabilized string of the input
abbrev pub KeyUnderEnds : Form → UnderReaders → Stream → Stream → ℕ → Type 0
KeyUnderEnds form readers output error status = JobEnds (MakesUnder form readers) (RefusesUnder readers) output error status
