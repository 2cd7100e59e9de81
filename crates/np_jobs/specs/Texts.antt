-- How a job on one text is refused, and what it makes.
use Rattle.std.specs.Prelude.{◌≡◌, ◌⊎◌, ℕ, Bool, List, IsUtf8}
use Rattle.np_code_points.specs.Text.{IsLongestValidPrefix}
use Rattle.np_versions.specs.Versions.{VersionData}
use Rattle.np_jobs.specs.Ends.{JobEnds}
use Rattle.np_jobs.specs.Streams.{Stream, IsUntouched, WasRead, WasNotRead}
use Rattle.np_jobs.specs.Versions.{WasBuilt, IsVersionFault}
use Rattle.np_jobs.specs.Wraps.{Wraps}
use Rattle.np_jobs.specs.declared.faults.JobFault.{JobFault}
use Rattle.np_jobs.specs.declared.faults.JobFault.TheVariants.{Version, Text}
use Rattle.np_jobs.specs.declared.faults.TextFault.{TextFault}
use Rattle.np_jobs.specs.declared.faults.TextFault.TheVariants.{Input, NotUtf8}

-- the readers of a job on one text, in the order of reading
pub record TextReaders : Type 0 where
  pub data_file : Stream
  pub exclusions_file : Stream
  pub input : Stream

-- bytes are no UTF-8 behind the longest prefix that is
abbrev pub IsNotUtf8 : List ℕ → TextFault → Type 0
IsNotUtf8 bytes fault = (at : ℕ) × (fault ≡ NotUtf8 at) × (¬ (IsUtf8 bytes)) × IsLongestValidPrefix bytes at

-- the input was not read whole; or it was, and is no text
abbrev pub IsNoText : Stream → TextFault → Type 0
IsNoText input fault = Wraps Input (WasNotRead input) fault ⊎ ((bytes : List ℕ) × WasRead input bytes × IsNotUtf8 bytes fault)

-- the input was not read as a text; or it was, and is refused
abbrev pub IsTextFault : (List ℕ → TextFault → Type 0) → Stream → TextFault → Type 0
IsTextFault Refuses input fault = IsNoText input fault ⊎ ((bytes : List ℕ) × WasRead input bytes × IsUtf8 bytes × Refuses bytes fault)

-- what is made of the input, a text
pub record IsMadeOfText (Makes : List ℕ → Bool → List ℕ → Type 0) (input : Stream) (is_yes : Bool) (bytes : List ℕ) : Type 0 where
  pub text : List ℕ
  pub read : WasRead input text
  pub valid : IsUtf8 text
  pub makes : Makes text is_yes bytes

-- what a job makes of the text under the version
pub record MakesOfText (Makes : VersionData → List ℕ → Bool → List ℕ → Type 0) (readers : TextReaders) (is_yes : Bool) (bytes : List ℕ) : Type 0 where
  pub v : VersionData
  pub built : WasBuilt readers.data_file readers.exclusions_file v
  pub made : IsMadeOfText (Makes v) readers.input is_yes bytes

-- the version was refused, and the input not looked at
abbrev pub LacksVersion : TextReaders → JobFault → Type 0
LacksVersion readers fault = Wraps Version (IsVersionFault 0 readers.data_file readers.exclusions_file) fault × IsUntouched readers.input

-- the version was refused; or it was built, and the input refused
abbrev pub RefusesText : (VersionData → List ℕ → TextFault → Type 0) → TextReaders → JobFault → Type 0
RefusesText Refuses readers fault =
    LacksVersion readers fault
    ⊎ ((v : VersionData) × WasBuilt readers.data_file readers.exclusions_file v × Wraps Text (IsTextFault (Refuses v) readers.input) fault)

-- a job on one text: what it makes is written, or why it is refused is told
abbrev pub TextEnds : (VersionData → List ℕ → Bool → List ℕ → Type 0) → (VersionData → List ℕ → TextFault → Type 0)
    → TextReaders → Stream → Stream → ℕ → Type 0
TextEnds Makes Refuses readers output error status = JobEnds (MakesOfText Makes readers) (RefusesText Refuses readers) output error status
