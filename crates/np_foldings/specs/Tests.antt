-- The six tests of a record, of which the least number that fits names its fault. Two of them hold it against the
-- record just before it.
use Rattle.std.specs.Prelude.{◌≡◌, ℕ, ◌<◌, ◌≤◌, false, List, Option, Some, None, ◌⊎◌}
use lib.Utf8.{scalar}
use Rattle.np_ucd.specs.Fields.{IsCodeOf}
use Rattle.np_foldings.specs.Faults.{RecordFault, FieldCount, BadCode, BadStatus, OutOfOrder, StatusConflict, BadMapping, number_of}
use Rattle.np_foldings.specs.Fields.{Fields, HasFields, Head, HasHead, IsMapping}
use Rattle.np_foldings.specs.Statuses.{Status, Common, Full, Simple, place_of, IsStatusOf}

-- 1: not four fields, or the last one is not empty
abbrev pub HasOtherCount : List ℕ → Type 0
HasOtherCount text = (f : Fields) → HasFields text f → ⊥

-- 2: no code point
abbrev pub HasBadCode : Fields → Type 0
HasBadCode f = (code : ℕ) → IsCodeOf f.code code → ⊥

-- 3: no status
abbrev pub HasBadStatus : Fields → Type 0
HasBadStatus f = (status : Status) → IsStatusOf f.status status → ⊥

-- 4: a smaller code point than that of the record before; or the same one, and no later status
abbrev pub IsOutOfOrder : Option Head → Head → Type 0
IsOutOfOrder None head = ⊥
IsOutOfOrder (Some before) head =
    (head.code < before.code) ⊎ ((head.code ≡ before.code) × (place_of head.status ≤ place_of before.status))

-- the record before is one of this code point and this status
abbrev pub IsBehind : Option Head → ℕ → Status → Type 0
IsBehind before code status = before ≡ Some (record { code = code; status = status })

-- 5: of status F behind the C of the same code point; or of status S, and not behind the F of the same code point
abbrev pub Conflicts : Option Head → Head → Type 0
Conflicts before head =
    ((head.status ≡ Full) × IsBehind before head.code Common)
    ⊎ ((head.status ≡ Simple) × (IsBehind before head.code Full → ⊥))

-- 6: no mapping of its status; or one of a surrogate
abbrev pub HasBadMapping : Fields → Head → Type 0
HasBadMapping f head = ((codes : List ℕ) → IsMapping head.status f.mapping codes → ⊥) ⊎ (scalar head.code ≡ false)

-- a test of the fields of a record, and one of what they say
abbrev pub Says : (Fields → Type 0) → List ℕ → Type 0
Says P text = (f : Fields) × HasFields text f × P f

abbrev pub SaysHead : (Fields → Head → Type 0) → List ℕ → Type 0
SaysHead P text = (f : Fields) × (head : Head) × HasHead text f head × P f head

-- the test that names this fault fits a record behind another, or behind none
abbrev pub Fits : RecordFault → Option Head → List ℕ → Type 0
Fits FieldCount before text = HasOtherCount text
Fits BadCode before text = Says HasBadCode text
Fits BadStatus before text = Says HasBadStatus text
Fits OutOfOrder before text = SaysHead (λ f head. IsOutOfOrder before head) text
Fits StatusConflict before text = SaysHead (λ f head. Conflicts before head) text
Fits BadMapping before text = SaysHead HasBadMapping text

-- the fault of a record: that of the least test that fits
pub record IsFaultOf (before : Option Head) (text : List ℕ) (fault : RecordFault) : Type 0 where
  pub fits : Fits fault before text
  pub least : (other : RecordFault) → Fits other before text → number_of fault ≤ number_of other
