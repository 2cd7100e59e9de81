-- The three files of a version with its foldings as bytes, and why they make none.
use Rattle.std.specs.Prelude.{◌≡◌, ◌⊎◌, ℕ, List, Option, Some, None, Ok, Err}
use Rattle.np_foldings.specs.Faults as folding
use Rattle.np_foldings.specs.Foldings.{Folding}
use Rattle.np_foldings.specs.Lowercases.{AreLowercases}
use Rattle.np_foldings.specs.declared.faults.FoldingFault.TheVariants.{BadRecord}
use Rattle.np_foldings.specs.declared.faults.RecordFault.{RecordFault}
use Rattle.np_foldings.specs.declared.lowercases.Lowercase.{Lowercase}
use Rattle.np_foldings.specs.Verdicts.{IsVerdict}
use Rattle.np_versions.specs.Versions.{VersionData}
use Rattle.np_caseless.specs.ConditionFaults.{IsFaultless, IsLeastFault, code_of, number_of}
use Rattle.np_caseless.specs.Folded.{FoldedVersion, folded_by}
use Rattle.np_caseless.specs.declared.faults.ConditionFault.{ConditionFault}
use Rattle.np_c.specs.Files.{Fits, IsLargeFile, IsNoVersion, IsVersionOf}
use Rattle.np_c.specs.Foldings.{folded_in}
use Rattle.np_c.specs.Statuses.{alone}
use Rattle.np_c.specs.Versions.{version_in}
use Rattle.np_c.specs.declared.answers.Answer.{Answer}
use Rattle.np_c.specs.declared.content.Content.{Content}

-- the folding file is not too large and has no fault, and these are its foldings
pub record HasFoldings (folding_file : List ℕ) (foldings : List Folding) : Type 0 where
  pub fits : Fits folding_file
  pub verdict : IsVerdict folding_file (Ok foldings)

-- the first two files make the version, the third has the foldings, and together they have no fault beside the lowercases of the first
pub record IsFoldedVersionOf (data_file exclusions_file folding_file : List ℕ) (v : FoldedVersion) : Type 0 where
  pub version : IsVersionOf data_file exclusions_file v.version
  pub foldings : HasFoldings folding_file v.foldings
  pub lowercases : List Lowercase
  pub lower : AreLowercases data_file lowercases
  pub faultless : IsFaultless v lowercases

-- the first fault of the folding file: its number, and its line
pub record IsFoldingFault (folding_file : List ℕ) (a : Answer) : Type 0 where
  pub fault : RecordFault
  pub first : IsVerdict folding_file (Err (BadRecord a.place fault))
  pub told : a ≡ record { status = 24; fault = folding.number_of fault; code = 0; place = a.place; length = 0 }

-- why the folding file was refused, if not for want of memory
abbrev pub IsFoldingRefused : List ℕ → Answer → Type 0
IsFoldingRefused folding_file a = IsFoldingFault folding_file a ⊎ (IsLargeFile 3 folding_file a ⊎ (a ≡ alone 4))

-- the fault of the version with its foldings at the least code point: its number, and that code point
pub record IsConditionAnswer (data_file : List ℕ) (v : FoldedVersion) (a : Answer) : Type 0 where
  pub lowercases : List Lowercase
  pub lower : AreLowercases data_file lowercases
  pub least : ConditionFault
  pub is : IsLeastFault v lowercases least
  pub told : a ≡ record { status = 25; fault = number_of least; code = a.code; place = 0; length = 0 }
  pub code : code_of least ≡ Some a.code

-- why a version has none of these foldings: the folding file is judged first, then its conditions; or memory ran out
abbrev pub LacksFoldings : List ℕ → List ℕ → VersionData → Answer → Type 0
LacksFoldings data_file folding_file v a =
    IsFoldingRefused folding_file a
    ⊎ ((foldings : List Folding) × HasFoldings folding_file foldings × (IsConditionAnswer data_file (folded_by v foldings) a ⊎ (a ≡ alone 4)))

-- why three files make no version with its foldings: the first two are judged first
abbrev pub IsNoFoldedVersion : List ℕ → List ℕ → List ℕ → Answer → Type 0
IsNoFoldedVersion data_file exclusions_file folding_file a =
    IsNoVersion data_file exclusions_file a
    ⊎ ((v : VersionData) × IsVersionOf data_file exclusions_file v × LacksFoldings data_file folding_file v a)

-- the version and its foldings are held
pub record HoldsFolded (v : FoldedVersion) (held : Option Content) : Type 0 where
  pub version : version_in held ≡ Some v.version
  pub folded : folded_in held ≡ Some v

-- `npss_open_caseless`: the version of the three files is what is opened, with its foldings; or nothing is, and they make none, or memory ran out
abbrev pub IsCaselessOpenAnswer : List ℕ → List ℕ → List ℕ → Option Content → Answer → Type 0
IsCaselessOpenAnswer data_file exclusions_file folding_file opened a =
    ((a ≡ alone 0) × ((v : FoldedVersion) × HoldsFolded v opened × IsFoldedVersionOf data_file exclusions_file folding_file v))
    ⊎ ((opened ≡ None) × IsNoFoldedVersion data_file exclusions_file folding_file a)
