-- The two files of a version as bytes, and why they make none. The numbers of faults are those of docs/FORMATS.md.
use Rattle.std.specs.Prelude.{◌≡◌, ◌↔◌, ◌⊎◌, ◌<◌, ◌≤◌, ℕ, true, List, Some, length}
use Rattle.np_versions.specs.TableFaults.{IsFaultless, IsLeastFault, code_of, number_of}
use Rattle.np_versions.specs.Versions.{VersionData}
use Rattle.np_versions.specs.declared.faults.TableFault.{TableFault}
use Rattle.np_ucd.specs.AllRows.{AreAllRows}
use Rattle.np_ucd.specs.Exclusions.{AreReadable, IsFirstBadLine, IsListedIn}
use Rattle.np_ucd.specs.Faults.{line_of, naming_of}
use Rattle.np_ucd.specs.FirstFaults.{HasNoFault, IsFirstFault}
use Rattle.np_ucd.specs.Listed.{is_listed}
use Rattle.np_ucd.specs.declared.faults.UcdFault.{UcdFault}
use Rattle.np_c.specs.Statuses.{alone}
use Rattle.np_c.specs.declared.answers.Answer.{Answer}

-- a file has at most 16,777,216 bytes
abbrev pub Fits : List ℕ → Type 0
Fits bytes = length bytes ≤ 16777216

-- neither file is too large or has a fault, and the version has the rows of the one and the exclusions of the other
pub record AreFilesOf (data_file exclusions_file : List ℕ) (v : VersionData) : Type 0 where
  pub data_fits : Fits data_file
  pub exclusions_fit : Fits exclusions_file
  pub faultless : HasNoFault data_file
  pub rows : AreAllRows data_file v.entries
  pub readable : AreReadable exclusions_file
  pub listed : (c : ℕ) → (is_listed v.exclusions c ≡ true) ↔ IsListedIn exclusions_file c

-- the two files make this version
pub record IsVersionOf (data_file exclusions_file : List ℕ) (v : VersionData) : Type 0 where
  pub files : AreFilesOf data_file exclusions_file v
  pub faultless : IsFaultless v

-- the first fault of a file: its number, and its line
pub record IsFileFault (status : ℕ) (IsFault : List ℕ → UcdFault → Type 0) (bytes : List ℕ) (a : Answer) : Type 0 where
  pub first : UcdFault
  pub is : IsFault bytes first
  pub told : a ≡ record { status = status; fault = (naming_of first).test; code = 0; place = a.place; length = 0 }
  pub line : line_of first ≡ Some a.place

-- a file, the first or the second, has more than 16,777,216 bytes
pub record IsLargeFile (number : ℕ) (bytes : List ℕ) (a : Answer) : Type 0 where
  pub told : a ≡ record { status = 10; fault = number; code = 0; place = 0; length = 0 }
  pub large : 16777216 < length bytes

-- the fault of the tables at the least code point: its number, and that code point
pub record IsTablesAnswer (v : VersionData) (a : Answer) : Type 0 where
  pub least : TableFault
  pub is : IsLeastFault v least
  pub told : a ≡ record { status = 9; fault = number_of least; code = a.code; place = 0; length = 0 }
  pub code : code_of least ≡ Some a.code

-- why a file was refused, if not for want of memory
abbrev pub IsFileRefused : ℕ → ℕ → (List ℕ → UcdFault → Type 0) → List ℕ → Answer → Type 0
IsFileRefused status number IsFault bytes a = IsFileFault status IsFault bytes a ⊎ (IsLargeFile number bytes a ⊎ (a ≡ alone 4))

-- why two files make no version: the data file is judged first, then the exclusions, then the tables; or memory ran out
abbrev pub IsNoVersion : List ℕ → List ℕ → Answer → Type 0
IsNoVersion data_file exclusions_file a =
    IsFileRefused 7 1 IsFirstFault data_file a
    ⊎ ((Fits data_file × HasNoFault data_file × IsFileRefused 8 2 IsFirstBadLine exclusions_file a)
    ⊎ ((v : VersionData) × AreFilesOf data_file exclusions_file v × (IsTablesAnswer v a ⊎ (a ≡ alone 4))))
