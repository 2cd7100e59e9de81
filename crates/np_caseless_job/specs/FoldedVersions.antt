-- How a job reads the three files of a version with its foldings, and builds it.
use Rattle.std.specs.Prelude.{◌≡◌, ◌↔◌, ◌⊎◌, ℕ, true, List, [], ◌∷◌, Option, Ok}
use Rattle.np_code_points.specs.Watched.{device_of}
use Rattle.np_foldings.specs.declared.faults.FoldingFault.{FoldingFault}
use Rattle.np_foldings.specs.Foldings.{Folding as FoldingOf}
use Rattle.np_foldings.specs.Lowercases.{AreLowercases}
use Rattle.np_foldings.specs.declared.lowercases.Lowercase.{Lowercase}
use Rattle.np_foldings.specs.Reading.{IsRefused}
use Rattle.np_foldings.specs.Verdicts.{IsVerdict}
use Rattle.np_foldings.specs.declared.faults.FoldingFault.TheVariants.{ReadFailed}
use Rattle.np_versions.specs.Versions.{VersionData}
use Rattle.np_caseless.specs.ConditionFaults.{IsFaultless, IsLeastFault}
use Rattle.np_caseless.specs.Folded.{FoldedVersion}
use Rattle.np_caseless.specs.declared.faults.ConditionFault.{ConditionFault}
use Rattle.np_caseless.specs.declared.faults.ConditionFault.TheVariants.{Memory}
use Rattle.np_jobs.specs.Chains.{VersionReaders}
use Rattle.np_jobs.specs.Streams.{Stream, IsUntouched, WasRead, stream_of}
use Rattle.np_jobs.specs.Versions.{IsVersionFault, WasBuilt}
use Rattle.np_jobs.specs.Wraps.{Wraps}
use Rattle.np_caseless_job.specs.declared.faults.FoldedFault.{FoldedFault}
use Rattle.np_caseless_job.specs.declared.faults.FoldedFault.TheVariants.{Version, Folding, Condition}
use Rattle.np_caseless_job.specs.declared.files.OpenFiles.{OpenFiles}

-- the three files of a version
pub record FoldedReaders : Type 0 where
  pub version : VersionReaders
  pub folding_file : Stream

-- files before a job and after it
abbrev pub folded_readers_of : {D : Type 0} → (D → Option (List ℕ)) → OpenFiles D → OpenFiles D → FoldedReaders
folded_readers_of tells old new = record {
  version = record { data_file = stream_of tells old.data_file new.data_file; exclusions_file = stream_of tells old.exclusions_file new.exclusions_file };
  folding_file = stream_of tells old.folding_file new.folding_file;
}

-- what the three files tell, in the order of the words
abbrev pub contents_of : {D : Type 0} → (D → Option (List ℕ)) → OpenFiles D → List (Option (List ℕ))
contents_of tells files =
    tells (device_of files.data_file) ∷ (tells (device_of files.exclusions_file) ∷ (tells (device_of files.folding_file) ∷ []))

-- none of the three files was looked at
abbrev pub AreUnread : FoldedReaders → Type 0
AreUnread readers = IsUntouched readers.version.data_file × IsUntouched readers.version.exclusions_file × IsUntouched readers.folding_file

-- the folding file was read, has no fault, and has these foldings
pub record HasFoldings (folding_file : Stream) (foldings : List FoldingOf) : Type 0 where
  pub bytes : List ℕ
  pub read : WasRead folding_file bytes
  pub verdict : IsVerdict bytes (Ok foldings)

-- the data file was read, and lists these lowercases
pub record HasLowercases (data_file : Stream) (lowercases : List Lowercase) : Type 0 where
  pub bytes : List ℕ
  pub read : WasRead data_file bytes
  pub are : AreLowercases bytes lowercases

-- the first two files make the version, the third has the foldings, and together they have no fault beside the lowercases of the first
pub record WasFolded (readers : FoldedReaders) (v : FoldedVersion) : Type 0 where
  pub built : WasBuilt readers.version.data_file readers.version.exclusions_file v.version
  pub foldings : HasFoldings readers.folding_file v.foldings
  pub lowercases : List Lowercase
  pub lower : HasLowercases readers.version.data_file lowercases
  pub faultless : IsFaultless v lowercases

-- why the folding file was refused: at its first fault, where it was read whole; the device failed exactly where that is the reason
pub record WasFoldingRefused (folding_file : Stream) (fault : FoldingFault) : Type 0 where
  pub how : IsRefused folding_file.before folding_file.after fault
  pub failed : (fault ≡ ReadFailed) ↔ (folding_file.failed ≡ true)

-- the version has this fault with its foldings, the least one, or memory ran out
abbrev pub IsConditionFault : Stream → FoldedVersion → ConditionFault → Type 0
IsConditionFault data_file v fault =
    (fault ≡ Memory) ⊎ ((lowercases : List Lowercase) × HasLowercases data_file lowercases × IsLeastFault v lowercases fault)

-- why no version came of the three files: the first two first, then the folding file, then its conditions
abbrev pub IsFoldedFault : ℕ → FoldedReaders → FoldedFault → Type 0
IsFoldedFault number readers fault =
    (Wraps Version (IsVersionFault number readers.version.data_file readers.version.exclusions_file) fault × IsUntouched readers.folding_file)
    ⊎ ((((v : VersionData) × WasBuilt readers.version.data_file readers.version.exclusions_file v)
    × Wraps (Folding number) (WasFoldingRefused readers.folding_file) fault)
    ⊎ ((v : FoldedVersion) × WasBuilt readers.version.data_file readers.version.exclusions_file v.version × HasFoldings readers.folding_file v.foldings
    × Wraps (Condition number) (IsConditionFault readers.version.data_file v) fault))
