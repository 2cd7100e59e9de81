-- The faults' names and lines, and the tests that they tell.
use Rattle.std.specs.Prelude.{ℕ, List, Option, Some, None, codes}
use Rattle.np_ucd.specs.declared.faults.UcdFault.{UcdFault}
use Rattle.np_ucd.specs.declared.faults.UcdFault.TheVariants.{FieldCount, BadCode, OutOfOrder, BadCategory, BadClass, BadMapping, RangeOpen, RangeLone, RangeDiffers, RangeMaps, TooLarge, ReadFailed, Memory}

-- a fault's name; its line, where it has one; and the number of the test of a record that it tells, 0 where it tells none
pub record Naming : Type 0 where
  pub name : List ℕ
  pub line : Option ℕ
  pub test : ℕ

abbrev pub at_line : List ℕ → ℕ → ℕ → Naming
at_line name line test = record { name = name; line = Some line; test = test }

abbrev pub of_file : List ℕ → Naming
of_file name = record { name = name; line = None; test = 0 }

abbrev pub naming_of : UcdFault → Naming
naming_of (FieldCount line) = at_line (codes "FieldCount") line 1
naming_of (BadCode line) = at_line (codes "BadCode") line 2
naming_of (OutOfOrder line) = at_line (codes "OutOfOrder") line 3
naming_of (BadCategory line) = at_line (codes "BadCategory") line 4
naming_of (BadClass line) = at_line (codes "BadClass") line 5
naming_of (BadMapping line) = at_line (codes "BadMapping") line 6
naming_of (RangeOpen line) = at_line (codes "RangeOpen") line 7
naming_of (RangeLone line) = at_line (codes "RangeLone") line 8
naming_of (RangeDiffers line) = at_line (codes "RangeDiffers") line 9
naming_of (RangeMaps line) = at_line (codes "RangeMaps") line 10
naming_of TooLarge = of_file (codes "TooLarge")
naming_of ReadFailed = of_file (codes "ReadFailed")
naming_of Memory = of_file (codes "Memory")

abbrev pub name_of : UcdFault → List ℕ
name_of fault = (naming_of fault).name

abbrev pub line_of : UcdFault → Option ℕ
line_of fault = (naming_of fault).line
