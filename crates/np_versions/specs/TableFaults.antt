-- The faults as `TableFault` names them, and which of several is told.
use Rattle.std.specs.Prelude.{◌≡◌, ℕ, ◌<◌, ◌≤◌, ◌⊎◌, List, Option, Some, None, codes, unwrap_or}
use Rattle.np_versions.specs.declared.faults.TableFault.{TableFault}
use Rattle.np_versions.specs.declared.faults.TableFault.TheVariants.{MapsToUnassigned, TooDeep, TooLong, AmbiguousPair, HangulWrong, Memory}
use Rattle.np_versions.specs.Faults.{IsMappedToUnassigned, IsTooDeep, IsTooLong, IsAmbiguous, IsHangulWrong}
use Rattle.np_versions.specs.Versions.{VersionData}

-- the name of a fault, and the number of its kind
abbrev pub naming_of : TableFault → List ℕ × ℕ
naming_of (MapsToUnassigned _) = (codes "MapsToUnassigned", 1)
naming_of (TooDeep _) = (codes "TooDeep", 2)
naming_of (TooLong _) = (codes "TooLong", 3)
naming_of (AmbiguousPair _) = (codes "AmbiguousPair", 4)
naming_of (HangulWrong _) = (codes "HangulWrong", 5)
naming_of Memory = (codes "Memory", 6)

abbrev pub name_of : TableFault → List ℕ
name_of fault = (naming_of fault).0

abbrev pub number_of : TableFault → ℕ
number_of fault = (naming_of fault).1

-- the code point of a fault, where it has one
abbrev pub code_of : TableFault → Option ℕ
code_of (MapsToUnassigned code) = Some code
code_of (TooDeep code) = Some code
code_of (TooLong code) = Some code
code_of (AmbiguousPair code) = Some code
code_of (HangulWrong code) = Some code
code_of Memory = None

-- the code point where a fault stands
abbrev pub place_of : TableFault → ℕ
place_of fault = unwrap_or (code_of fault) 0

-- the version has this fault
abbrev pub HasFault : VersionData → TableFault → Type 0
HasFault v (MapsToUnassigned code) = IsMappedToUnassigned v code
HasFault v (TooDeep code) = IsTooDeep v code
HasFault v (TooLong code) = IsTooLong v code
HasFault v (AmbiguousPair code) = IsAmbiguous v code
HasFault v (HangulWrong code) = IsHangulWrong v code
HasFault v Memory = ⊥

-- at a smaller code point, or at the same one with no greater number
abbrev pub IsBeforeFault : TableFault → TableFault → Type 0
IsBeforeFault f g = (place_of f < place_of g) ⊎ ((place_of f ≡ place_of g) × (number_of f ≤ number_of g))

-- the fault that is told
pub record IsLeastFault (v : VersionData) (f : TableFault) : Type 0 where
  pub holds : HasFault v f
  pub least : (g : TableFault) → HasFault v g → IsBeforeFault f g

-- there is no fault
abbrev pub IsFaultless : VersionData → Type 0
IsFaultless v = (f : TableFault) → ¬ (HasFault v f)
