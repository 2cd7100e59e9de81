-- The faults as `ConditionFault` names them, and which of several is told.
use Rattle.std.specs.Prelude.{◌≡◌, ℕ, ◌<◌, ◌≤◌, ◌⊎◌, List, Option, Some, None, codes, unwrap_or}
use Rattle.np_foldings.specs.declared.lowercases.Lowercase.{Lowercase}
use Rattle.np_caseless.specs.declared.faults.ConditionFault.{ConditionFault}
use Rattle.np_caseless.specs.declared.faults.ConditionFault.TheVariants.{FoldsUnassigned, FoldsToUnassigned, FoldsAgain, FoldedTooLong, NotFolded, Memory}
use Rattle.np_caseless.specs.Faults.{IsUnassignedFolded, IsFoldedToUnassigned, IsFoldedAgain, IsFoldedTooLong, IsNotFolded}
use Rattle.np_caseless.specs.Folded.{FoldedVersion}

-- the name of a fault, and the number of its kind
abbrev pub naming_of : ConditionFault → List ℕ × ℕ
naming_of (FoldsUnassigned _) = (codes "FoldsUnassigned", 1)
naming_of (FoldsToUnassigned _) = (codes "FoldsToUnassigned", 2)
naming_of (FoldsAgain _) = (codes "FoldsAgain", 3)
naming_of (FoldedTooLong _) = (codes "FoldedTooLong", 4)
naming_of (NotFolded _) = (codes "NotFolded", 5)
naming_of Memory = (codes "Memory", 6)

abbrev pub name_of : ConditionFault → List ℕ
name_of fault = (naming_of fault).0

abbrev pub number_of : ConditionFault → ℕ
number_of fault = (naming_of fault).1

-- the code point of a fault, where it has one
abbrev pub code_of : ConditionFault → Option ℕ
code_of (FoldsUnassigned code) = Some code
code_of (FoldsToUnassigned code) = Some code
code_of (FoldsAgain code) = Some code
code_of (FoldedTooLong code) = Some code
code_of (NotFolded code) = Some code
code_of Memory = None

-- the code point where a fault stands
abbrev pub place_of : ConditionFault → ℕ
place_of fault = unwrap_or (code_of fault) 0

-- the version with its foldings, beside these lowercases, has this fault
abbrev pub HasFault : FoldedVersion → List Lowercase → ConditionFault → Type 0
HasFault v lowercases (FoldsUnassigned code) = IsUnassignedFolded v code
HasFault v lowercases (FoldsToUnassigned code) = IsFoldedToUnassigned v code
HasFault v lowercases (FoldsAgain code) = IsFoldedAgain v code
HasFault v lowercases (FoldedTooLong code) = IsFoldedTooLong v code
HasFault v lowercases (NotFolded code) = IsNotFolded v lowercases code
HasFault v lowercases Memory = ⊥

-- at a smaller code point, or at the same one with no greater number
abbrev pub IsBeforeFault : ConditionFault → ConditionFault → Type 0
IsBeforeFault f g = (place_of f < place_of g) ⊎ ((place_of f ≡ place_of g) × (number_of f ≤ number_of g))

-- the fault that is told
pub record IsLeastFault (v : FoldedVersion) (lowercases : List Lowercase) (f : ConditionFault) : Type 0 where
  pub holds : HasFault v lowercases f
  pub least : (g : ConditionFault) → HasFault v lowercases g → IsBeforeFault f g

-- there is no fault
abbrev pub IsFaultless : FoldedVersion → List Lowercase → Type 0
IsFaultless v lowercases = (f : ConditionFault) → ¬ (HasFault v lowercases f)
