-- The ten tests of a record, of which the least number that fits names its fault (UAX #44, table 9, and section
-- 4.2.3 for those that hold it against the record just before it).
use Rattle.std.specs.Prelude.{◌≡◌, ◌≢◌, ℕ, ◌≤◌, false, List, [], Option, Some, None, ◌⊎◌}
use lib.Utf8.{scalar}
use Rattle.np_code_points.specs.Lines.{Numbered}
use Rattle.np_ucd.specs.Faults.{line_of, naming_of}
use Rattle.np_ucd.specs.Fields.{Fields, HasFields, IsCodeOf, IsCategory, IsClassOf, IsFirstName, IsLastName}
use Rattle.np_ucd.specs.Mappings.{Mapping, IsMapping}
pub use Rattle.np_ucd.specs.declared.faults.UcdFault.{UcdFault}
pub use Rattle.np_ucd.specs.declared.faults.UcdFault.TheVariants.{FieldCount, BadCode, OutOfOrder, BadCategory, BadClass, BadMapping, RangeOpen, RangeLone, RangeDiffers, RangeMaps, TooLarge, ReadFailed, Memory}

-- 1: not fifteen fields
abbrev pub HasOtherCount : List ℕ → Type 0
HasOtherCount text = (f : Fields) → HasFields text f → ⊥

-- 2: no code point
abbrev pub HasBadCode : Fields → Type 0
HasBadCode f = (code : ℕ) → IsCodeOf f.code code → ⊥

-- 3: not above the code point of the record before
abbrev pub IsOutOfOrder : Fields → Fields → Type 0
IsOutOfOrder before f =
    (earlier : ℕ) × (code : ℕ) × IsCodeOf before.code earlier × IsCodeOf f.code code × (code ≤ earlier)

-- 4: no category
abbrev pub HasBadCategory : Fields → Type 0
HasBadCategory f = IsCategory f.category → ⊥

-- 5: no combining class
abbrev pub HasBadClass : Fields → Type 0
HasBadClass f = (class : ℕ) → IsClassOf f.class class → ⊥

-- it has a mapping
abbrev pub Maps : Fields → Type 0
Maps f = (to : Mapping) × IsMapping f.mapping to × (to.codes ≢ [])

-- 6: no mapping that can be read, not even the empty one, or one of a surrogate
abbrev pub HasBadMapping : Fields → Type 0
HasBadMapping f =
    ((to : Mapping) → IsMapping f.mapping to → ⊥)
    ⊎ (Maps f × ((code : ℕ) × IsCodeOf f.code code × (scalar code ≡ false)))

-- 7: the record before is the first one of a range, and this one is not the last one
abbrev pub LeavesRangeOpen : Fields → Fields → Type 0
LeavesRangeOpen before f = IsFirstName before.name × (IsLastName f.name → ⊥)

-- 8: the last one of a range, but the record before is not the first one
abbrev pub ClosesNoRange : Option Fields → Fields → Type 0
ClosesNoRange None f = IsLastName f.name
ClosesNoRange (Some before) f = IsLastName f.name × (IsFirstName before.name → ⊥)

-- two of them have unlike classes
abbrev pub DifferInClass : Fields → Fields → Type 0
DifferInClass before f =
    (earlier : ℕ) × (class : ℕ) × IsClassOf before.class earlier × IsClassOf f.class class × (class ≢ earlier)

-- 9: the last one of a range, whose category or class is not that of the first one
abbrev pub DiffersInRange : Fields → Fields → Type 0
DiffersInRange before f =
    IsFirstName before.name × IsLastName f.name × ((f.category ≢ before.category) ⊎ DifferInClass before f)

-- 10: the first or the last one of a range, with a mapping
abbrev pub MapsInRange : Fields → Type 0
MapsInRange f = (IsFirstName f.name ⊎ IsLastName f.name) × Maps f

-- a test of the fields of a record, and one of those of the record before too
abbrev pub Says : (Fields → Type 0) → List ℕ → Type 0
Says P text = (f : Fields) × HasFields text f × P f

abbrev pub SaysBehind : (Fields → Fields → Type 0) → Option Fields → List ℕ → Type 0
SaysBehind P None text = ⊥
SaysBehind P (Some before) text = Says (P before) text

-- the test that names this fault fits a record behind another, or behind none
abbrev pub Fits : UcdFault → Option Fields → List ℕ → Type 0
Fits (FieldCount _) before text = HasOtherCount text
Fits (BadCode _) before text = Says HasBadCode text
Fits (OutOfOrder _) before text = SaysBehind IsOutOfOrder before text
Fits (BadCategory _) before text = Says HasBadCategory text
Fits (BadClass _) before text = Says HasBadClass text
Fits (BadMapping _) before text = Says HasBadMapping text
Fits (RangeOpen _) before text = SaysBehind LeavesRangeOpen before text
Fits (RangeLone _) before text = Says (ClosesNoRange before) text
Fits (RangeDiffers _) before text = SaysBehind DiffersInRange before text
Fits (RangeMaps _) before text = Says MapsInRange text
Fits TooLarge before text = ⊥
Fits ReadFailed before text = ⊥
Fits Memory before text = ⊥

-- the number of a fault's test
abbrev pub test_of : UcdFault → ℕ
test_of fault = (naming_of fault).test

-- the fault of a record, at its line: that of the least test that fits
pub record IsFaultOf (before : Option Fields) (r : Numbered) (fault : UcdFault) : Type 0 where
  pub line : line_of fault ≡ Some r.line
  pub fits : Fits fault before r.text
  pub least : (other : UcdFault) → Fits other before r.text → test_of fault ≤ test_of other
