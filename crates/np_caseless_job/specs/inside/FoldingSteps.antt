-- The version of a data file's bytes, and its conditions with foldings.
use Rattle.std.specs.Prelude.{◌≡◌, ◌⊎◌, ℕ, true, List, is_some}
use Rattle.np_ucd.specs.Faults.{line_of}
use Rattle.np_ucd.specs.FirstFaults.{IsFirstFault}
use Rattle.np_ucd.specs.declared.faults.UcdFault.{UcdFault}
use Rattle.np_ucd.specs.declared.faults.UcdFault.TheVariants as Files
use Rattle.np_foldings.specs.Foldings.{Folding}
use Rattle.np_foldings.specs.Lowercases.{AreLowercases}
use Rattle.np_foldings.specs.declared.lowercases.Lowercase.{Lowercase}
use Rattle.np_versions.specs.Versions.{VersionData}
use Rattle.np_caseless.specs.ConditionFaults.{IsFaultless, IsLeastFault}
use Rattle.np_caseless.specs.Folded.{FoldedVersion, folded_by}
use Rattle.np_caseless.specs.declared.faults.ConditionFault.{ConditionFault}
use Rattle.np_caseless.specs.declared.faults.ConditionFault.TheVariants.{Memory}

-- the version with these foldings, and no fault beside the lowercases of the bytes
pub record WasFoldedOver (bytes : List ℕ) (version : VersionData) (foldings : List Folding) (v : FoldedVersion) : Type 0 where
  pub is : v ≡ folded_by version foldings
  pub lowercases : List Lowercase
  pub are : AreLowercases bytes lowercases
  pub faultless : IsFaultless (folded_by version foldings) lowercases

abbrev pub IsFaultOverBytes : List ℕ → VersionData → List Folding → ConditionFault → Type 0
IsFaultOverBytes bytes version foldings fault =
    (fault ≡ Memory) ⊎ ((lowercases : List Lowercase) × AreLowercases bytes lowercases × IsLeastFault (folded_by version foldings) lowercases fault)

-- the first fault of the bytes, which has a line, or want of memory
abbrev pub IsFaultIn : List ℕ → UcdFault → Type 0
IsFaultIn bytes fault = (fault ≡ Files.Memory) ⊎ (IsFirstFault bytes fault × (is_some (line_of fault) ≡ true))
