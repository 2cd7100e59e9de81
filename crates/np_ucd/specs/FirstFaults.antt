-- The first fault of UnicodeData.txt: the least line, and there the least test (UAX #44, sections 4.2 and 4.2.3).
use Rattle.std.specs.Prelude.{◌≡◌, ℕ, ◌≤◌, List, [], ◌∷◌, ◌++◌, Option, Some, None, ◌⊎◌}
use Rattle.np_code_points.specs.Lines.{Numbered, AreDataLines}
use Rattle.np_ucd.specs.Fields.{Fields, HasFields, IsFirstName}
use Rattle.np_ucd.specs.Tests.{UcdFault, RangeOpen, IsFaultOf}

-- the fields of the last of these records; none where there are no records
abbrev pub IsLastOf : List Numbered → Option Fields → Type 0
IsLastOf records None = records ≡ []
IsLastOf records (Some f) = (front : List Numbered) × (last : Numbered) × (records ≡ front ++ last ∷ []) × HasFields last.text f

-- the record on this line has this fault
pub record IsFaultAt (bytes : List ℕ) (line : ℕ) (fault : UcdFault) : Type 0 where
  pub records : List Numbered
  pub are : AreDataLines bytes records
  pub before : List Numbered
  pub faulty : Numbered
  pub behind : List Numbered
  pub stands : records ≡ before ++ faulty ∷ behind
  pub neighbour : Option Fields
  pub is_neighbour : IsLastOf before neighbour
  pub at : faulty.line ≡ line
  pub fault_of : IsFaultOf neighbour faulty fault

-- no record has any
abbrev pub HasNoFaultAt : List ℕ → Type 0
HasNoFaultAt bytes = (line : ℕ) (fault : UcdFault) → IsFaultAt bytes line fault → ⊥

-- a range is open at the end: the last record is its first one
pub record IsOpenAtEnd (bytes : List ℕ) (fault : UcdFault) : Type 0 where
  pub records : List Numbered
  pub are : AreDataLines bytes records
  pub front : List Numbered
  pub last : Numbered
  pub stands : records ≡ front ++ last ∷ []
  pub fields : Fields
  pub has : HasFields last.text fields
  pub opens : IsFirstName fields.name
  pub is : fault ≡ RangeOpen last.line

-- the fault of the least line; or, where no record has one, that of the end
abbrev pub IsFirstFault : List ℕ → UcdFault → Type 0
IsFirstFault bytes fault =
    ((line : ℕ) × IsFaultAt bytes line fault × ((other_line : ℕ) (other : UcdFault) → IsFaultAt bytes other_line other → line ≤ other_line))
    ⊎ (HasNoFaultAt bytes × IsOpenAtEnd bytes fault)

-- neither a record nor the end has a fault
pub record HasNoFault (bytes : List ℕ) : Type 0 where
  pub records : HasNoFaultAt bytes
  pub end : (fault : UcdFault) → IsOpenAtEnd bytes fault → ⊥
