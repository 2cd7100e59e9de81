-- How a job reads the two files of a version, and builds it.
use Rattle.std.specs.Prelude.{◌≡◌, ◌↔◌, ◌⊎◌, ℕ, true, List}
use Rattle.np_versions.specs.TableFaults.{IsFaultless, IsLeastFault}
use Rattle.np_versions.specs.Versions.{VersionData}
use Rattle.np_versions.specs.declared.faults.TableFault.{TableFault}
use Rattle.np_versions.specs.declared.faults.TableFault.TheVariants.{Memory}
use Rattle.np_ucd.specs.AllRows.{AreAllRows}
use Rattle.np_ucd.specs.Entries.{Entry}
use Rattle.np_ucd.specs.Exclusions.{AreReadable, IsFirstBadLine, IsListedIn}
use Rattle.np_ucd.specs.FirstFaults.{HasNoFault, IsFirstFault}
use Rattle.np_ucd.specs.Listed.{Span, is_listed}
use Rattle.np_ucd.specs.Reading.{IsRefused}
use Rattle.np_ucd.specs.declared.faults.UcdFault.{UcdFault}
use Rattle.np_ucd.specs.declared.faults.UcdFault.TheVariants.{ReadFailed}
use Rattle.np_jobs.specs.Streams.{Stream, IsUntouched, WasRead}
use Rattle.np_jobs.specs.Wraps.{Wraps}
use Rattle.np_jobs.specs.declared.faults.VersionFault.{VersionFault}
use Rattle.np_jobs.specs.declared.faults.VersionFault.TheVariants.{Data, Exclusions, Tables}

-- the data file was read, has no fault, and has these rows
pub record HasRows (data_file : Stream) (rows : List Entry) : Type 0 where
  pub bytes : List ℕ
  pub read : WasRead data_file bytes
  pub faultless : HasNoFault bytes
  pub are : AreAllRows bytes rows

-- the exclusions file was read, has no fault, and lists these code points
pub record HasExclusions (exclusions_file : Stream) (exclusions : List Span) : Type 0 where
  pub bytes : List ℕ
  pub read : WasRead exclusions_file bytes
  pub readable : AreReadable bytes
  pub listed : (c : ℕ) → (is_listed exclusions c ≡ true) ↔ IsListedIn bytes c

-- the two files make this version
pub record WasBuilt (data_file exclusions_file : Stream) (v : VersionData) : Type 0 where
  pub rows : HasRows data_file v.entries
  pub listed : HasExclusions exclusions_file v.exclusions
  pub faultless : IsFaultless v

-- why a file was refused: at its first fault, where it was read whole; else it was read in part, and the device failed exactly where that is the reason
pub record WasRefused (IsFault : List ℕ → UcdFault → Type 0) (file : Stream) (fault : UcdFault) : Type 0 where
  pub how : IsRefused IsFault file.before file.after fault
  pub failed : (fault ≡ ReadFailed) ↔ (file.failed ≡ true)

-- the tables have this fault, the least one, or memory ran out
abbrev pub IsTablesFault : VersionData → TableFault → Type 0
IsTablesFault v fault = (fault ≡ Memory) ⊎ IsLeastFault v fault

-- the rows and the exclusions file make this version
pub record WasBuiltOver (rows : List Entry) (exclusions_file : Stream) (v : VersionData) : Type 0 where
  pub over : v.entries ≡ rows
  pub listed : HasExclusions exclusions_file v.exclusions
  pub faultless : IsFaultless v

-- why no version came of them
abbrev pub IsFaultOver : ℕ → List Entry → Stream → VersionFault → Type 0
IsFaultOver number rows exclusions_file fault =
    Wraps (Exclusions number) (WasRefused IsFirstBadLine exclusions_file) fault
    ⊎ ((v : VersionData) × (v.entries ≡ rows) × HasExclusions exclusions_file v.exclusions × Wraps (Tables number) (IsTablesFault v) fault)

-- why no version came of the two files: the data file first, then the exclusions, then the tables
abbrev pub IsVersionFault : ℕ → Stream → Stream → VersionFault → Type 0
IsVersionFault number data_file exclusions_file fault =
    (Wraps (Data number) (WasRefused IsFirstFault data_file) fault × IsUntouched exclusions_file)
    ⊎ ((((rows : List Entry) × HasRows data_file rows) × Wraps (Exclusions number) (WasRefused IsFirstBadLine exclusions_file) fault)
    ⊎ ((v : VersionData) × HasRows data_file v.entries × HasExclusions exclusions_file v.exclusions × Wraps (Tables number) (IsTablesFault v) fault))
