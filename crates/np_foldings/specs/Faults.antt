-- The faults' names, numbers and lines.
use Rattle.std.specs.Prelude.{ℕ, List, Option, Some, None, codes}
pub use Rattle.np_foldings.specs.declared.faults.RecordFault.{RecordFault}
pub use Rattle.np_foldings.specs.declared.faults.RecordFault.TheVariants.{FieldCount, BadCode, BadStatus, OutOfOrder, StatusConflict, BadMapping}
pub use Rattle.np_foldings.specs.declared.faults.FoldingFault.{FoldingFault}
pub use Rattle.np_foldings.specs.declared.faults.FoldingFault.TheVariants.{BadRecord, TooLarge, ReadFailed, Memory}

-- the number of the test of a record that a fault tells
abbrev pub number_of : RecordFault → ℕ
number_of FieldCount = 1
number_of BadCode = 2
number_of BadStatus = 3
number_of OutOfOrder = 4
number_of StatusConflict = 5
number_of BadMapping = 6

abbrev pub record_name : RecordFault → List ℕ
record_name FieldCount = codes "FieldCount"
record_name BadCode = codes "BadCode"
record_name BadStatus = codes "BadStatus"
record_name OutOfOrder = codes "OutOfOrder"
record_name StatusConflict = codes "StatusConflict"
record_name BadMapping = codes "BadMapping"

abbrev pub name_of : FoldingFault → List ℕ
name_of (BadRecord line fault) = record_name fault
name_of TooLarge = codes "TooLarge"
name_of ReadFailed = codes "ReadFailed"
name_of Memory = codes "Memory"

abbrev pub line_of : FoldingFault → Option ℕ
line_of (BadRecord line fault) = Some line
line_of TooLarge = None
line_of ReadFailed = None
line_of Memory = None
