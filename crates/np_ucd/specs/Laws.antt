-- The laws of the grammar: what its relations determine.
use Rattle.std.specs.Prelude.{◌≡◌, ℕ, List, ◌⊎◌}
use Rattle.np_code_points.specs.One.{HasOne}
use Rattle.np_ucd.specs.AllRows.{AreAllRows}
use Rattle.np_ucd.specs.Exclusions.{SaysText, ListsNothing, ListsSpan, IsFirstBadLine, AreReadable}
use Rattle.np_ucd.specs.Fields.{AreFields}
use Rattle.np_ucd.specs.FirstFaults.{HasNoFault, IsFirstFault}
use Rattle.np_ucd.specs.Listed.{Span}
use Rattle.np_ucd.specs.Mappings.{Mapping, IsMapping}
use Rattle.np_ucd.specs.Tests.{UcdFault}

-- a record is cut into fields in one way
abbrev pub HasOneListOfFields : Type 0
HasOneListOfFields = (text : List ℕ) → HasOne (AreFields text)

-- a field says at most one mapping
abbrev pub SaysOneMapping : Type 0
SaysOneMapping = (field : List ℕ) (a b : Mapping) → IsMapping field a → IsMapping field b → a ≡ b

-- each file has no fault, or one first fault, and not both
pub record HasOneVerdict (bytes : List ℕ) : Type 0 where
  pub either : HasNoFault bytes ⊎ HasOne (IsFirstFault bytes)
  pub not_both : HasNoFault bytes → (fault : UcdFault) → IsFirstFault bytes fault → ⊥

-- a file without a fault has one list of rows
abbrev pub HasOneListOfRows : Type 0
HasOneListOfRows = (bytes : List ℕ) → HasNoFault bytes → HasOne (AreAllRows bytes)

-- a line of CompositionExclusions.txt says one text
abbrev pub SaysOneText : Type 0
SaysOneText = (line : List ℕ) → HasOne (SaysText line)

-- it lists nothing, or the code points of one span, and not both
pub record ListsOneThing (line : List ℕ) : Type 0 where
  pub one : (a b : Span) → ListsSpan line a → ListsSpan line b → a ≡ b
  pub not_both : (a : Span) → ListsNothing line → ListsSpan line a → ⊥

-- each line of CompositionExclusions.txt can be read, or one is the first that can't
abbrev pub HasOneBadLine : Type 0
HasOneBadLine = (bytes : List ℕ) → AreReadable bytes ⊎ HasOne (IsFirstBadLine bytes)
