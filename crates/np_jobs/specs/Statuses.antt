-- The statuses of refusals: 1 for versions that don't extend one another, 3 for a code point that is not assigned, 4 for bad data, text
-- or schedule, 5 for a device that failed, 6 for want of memory. Here those of files and tables.
use Rattle.std.specs.Prelude.{ℕ, is_some, if◌then◌else◌}
use Rattle.np_code_points.specs.declared.channels.input.InputFault.{InputFault}
use Rattle.np_code_points.specs.declared.channels.input.InputFault.TheVariants as Inputs
use Rattle.np_versions.specs.TableFaults.{code_of}
use Rattle.np_versions.specs.declared.faults.TableFault.{TableFault}
use Rattle.np_ucd.specs.declared.faults.UcdFault.{UcdFault}
use Rattle.np_ucd.specs.declared.faults.UcdFault.TheVariants as Files

abbrev pub file_status : UcdFault → ℕ
file_status (Files.FieldCount line) = 4
file_status (Files.BadCode line) = 4
file_status (Files.OutOfOrder line) = 4
file_status (Files.BadCategory line) = 4
file_status (Files.BadClass line) = 4
file_status (Files.BadMapping line) = 4
file_status (Files.RangeOpen line) = 4
file_status (Files.RangeLone line) = 4
file_status (Files.RangeDiffers line) = 4
file_status (Files.RangeMaps line) = 4
file_status Files.TooLarge = 4
file_status Files.ReadFailed = 5
file_status Files.Memory = 6

-- all but want of memory stand at a code point
abbrev pub tables_status : TableFault → ℕ
tables_status fault = if is_some (code_of fault) then 4 else 6

abbrev pub input_status : InputFault → ℕ
input_status Inputs.TooLarge = 4
input_status Inputs.ReadFailed = 5
input_status Inputs.Memory = 6
