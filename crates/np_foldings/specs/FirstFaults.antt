-- The first fault of CaseFolding.txt: the least line, and there the least test.
use Rattle.std.specs.Prelude.{◌≡◌, ℕ, ◌≤◌, List, [], ◌∷◌, ◌++◌, Option, Some, None}
use Rattle.np_code_points.specs.Lines.{Numbered}
use Rattle.np_foldings.specs.Faults.{RecordFault}
use Rattle.np_foldings.specs.Fields.{Fields, Head, HasHead}
use Rattle.np_foldings.specs.Tests.{IsFaultOf}

-- what the last of these records says; none where there are no records
abbrev pub IsLastOf : List Numbered → Option Head → Type 0
IsLastOf records None = records ≡ []
IsLastOf records (Some head) =
    (front : List Numbered) × (last : Numbered) × (f : Fields) × (records ≡ front ++ last ∷ []) × HasHead last.text f head

-- one of the records has this fault
pub record IsFaultAt (records : List Numbered) (faulty : Numbered) (fault : RecordFault) : Type 0 where
  pub before : List Numbered
  pub behind : List Numbered
  pub stands : records ≡ before ++ faulty ∷ behind
  pub neighbour : Option Head
  pub is_neighbour : IsLastOf before neighbour
  pub fault_of : IsFaultOf neighbour faulty.text fault

-- that on the least line of those that have one
pub record IsFirstFault (records : List Numbered) (line : ℕ) (fault : RecordFault) : Type 0 where
  pub faulty : Numbered
  pub at : faulty.line ≡ line
  pub has : IsFaultAt records faulty fault
  pub least : (other : Numbered) (another : RecordFault) → IsFaultAt records other another → line ≤ other.line

-- no record has any
abbrev pub HasNoFault : List Numbered → Type 0
HasNoFault records = (faulty : Numbered) (fault : RecordFault) → IsFaultAt records faulty fault → ⊥
