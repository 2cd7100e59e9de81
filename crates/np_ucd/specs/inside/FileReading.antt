-- The first fault and the rows of UnicodeData.txt, as functions of its bytes; `specs/FirstFaults` and `specs/AllRows`
-- say it in relations.
use Rattle.std.specs.Prelude.{ℕ, List, [], ◌∷◌, ◌++◌, Option, Some, None, if◌then◌else◌}
use Rattle.std.specs.Option.{option_or}
use Rattle.np_code_points.specs.Lines.{Numbered}
use Rattle.np_code_points.specs.inside.LineCuts.{data_lines_in}
use Rattle.np_ucd.specs.Entries.{Entry}
use Rattle.np_ucd.specs.Tests.{UcdFault, RangeOpen}
use Rattle.np_ucd.specs.inside.RecordReading.{Neighbour, neighbour_of, record_fault, record_rows}

-- at the end of the file no range may be open
abbrev pub end_fault : Option Neighbour → Option UcdFault
end_fault None = None
end_fault (Some before) = if before.opens then Some (RangeOpen before.line) else None

-- the fault of the least line
unfoldable pub fault_after : Option Neighbour → List Numbered → Option UcdFault
fault_after before [] = end_fault before
fault_after before (r ∷ records) =
    option_or (record_fault before r.line r.text) (fault_after (Some (neighbour_of r.line r.text)) records)

unfoldable pub rows_after : Option Neighbour → List Numbered → List Entry
rows_after before [] = []
rows_after before (r ∷ records) = record_rows before r.text ++ rows_after (Some (neighbour_of r.line r.text)) records

-- the first fault of a file, if it has one, and its rows, if it has none
unfoldable pub first_fault : List ℕ → Option UcdFault
first_fault bytes = fault_after None (data_lines_in bytes)

unfoldable pub rows_in : List ℕ → List Entry
rows_in bytes = rows_after None (data_lines_in bytes)
