-- Answers as functions of what they tell.
use Rattle.std.specs.Prelude.{ℕ, Bool, true, false}
use Rattle.np_versions.specs.declared.faults.TableFault.{TableFault}
use Rattle.np_versions.specs.declared.faults.TableFault.TheVariants as table
use Rattle.np_ucd.specs.declared.faults.UcdFault.{UcdFault}
use Rattle.np_ucd.specs.declared.faults.UcdFault.TheVariants.{FieldCount, BadCode, OutOfOrder, BadCategory, BadClass, BadMapping, RangeOpen, RangeLone, RangeDiffers, RangeMaps, TooLarge, ReadFailed, Memory}
use Rattle.np_foldings.specs.Faults as line_fault
use Rattle.np_foldings.specs.declared.faults.FoldingFault.{FoldingFault}
use Rattle.np_foldings.specs.declared.faults.FoldingFault.TheVariants as folding
use Rattle.np_caseless.specs.declared.faults.ConditionFault.{ConditionFault}
use Rattle.np_caseless.specs.declared.faults.ConditionFault.TheVariants as condition
use Rattle.np_c.specs.declared.answers.Answer.{Answer}

-- a fault of this number, at a line
abbrev pub at_line : ℕ → ℕ → ℕ → Answer
at_line status fault line = record { status = status; fault = fault; code = 0; place = line; length = 0 }

abbrev pub no_memory : Answer
no_memory = at_line 4 0 0

-- yes or no
abbrev pub told_answer : Bool → Answer
told_answer true = at_line 0 0 0
told_answer false = at_line 11 0 0

-- the fault of a file
abbrev pub file_answer : ℕ → ℕ → UcdFault → Answer
file_answer status number (FieldCount line) = at_line status 1 line
file_answer status number (BadCode line) = at_line status 2 line
file_answer status number (OutOfOrder line) = at_line status 3 line
file_answer status number (BadCategory line) = at_line status 4 line
file_answer status number (BadClass line) = at_line status 5 line
file_answer status number (BadMapping line) = at_line status 6 line
file_answer status number (RangeOpen line) = at_line status 7 line
file_answer status number (RangeLone line) = at_line status 8 line
file_answer status number (RangeDiffers line) = at_line status 9 line
file_answer status number (RangeMaps line) = at_line status 10 line
file_answer status number TooLarge = at_line 10 number 0
file_answer status number ReadFailed = no_memory
file_answer status number Memory = no_memory

-- a fault of this number, at a code point
abbrev pub at_code : ℕ → ℕ → ℕ → Answer
at_code status fault code = record { status = status; fault = fault; code = code; place = 0; length = 0 }

abbrev pub tables_answer : TableFault → Answer
tables_answer (table.MapsToUnassigned code) = at_code 9 1 code
tables_answer (table.TooDeep code) = at_code 9 2 code
tables_answer (table.TooLong code) = at_code 9 3 code
tables_answer (table.AmbiguousPair code) = at_code 9 4 code
tables_answer (table.HangulWrong code) = at_code 9 5 code
tables_answer table.Memory = no_memory

-- the fault of a folding file
abbrev pub folding_answer : FoldingFault → Answer
folding_answer (folding.BadRecord line fault) = at_line 24 (line_fault.number_of fault) line
folding_answer folding.TooLarge = at_line 10 3 0
folding_answer folding.ReadFailed = no_memory
folding_answer folding.Memory = no_memory

-- the fault of a version with its foldings
abbrev pub condition_answer : ConditionFault → Answer
condition_answer (condition.FoldsUnassigned code) = at_code 25 1 code
condition_answer (condition.FoldsToUnassigned code) = at_code 25 2 code
condition_answer (condition.FoldsAgain code) = at_code 25 3 code
condition_answer (condition.FoldedTooLong code) = at_code 25 4 code
condition_answer (condition.NotFolded code) = at_code 25 5 code
condition_answer condition.Memory = no_memory
