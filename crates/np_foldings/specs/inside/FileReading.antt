-- What CaseFolding.txt says, as a function of its bytes; `specs/Verdicts` says it in relations.
use Rattle.std.specs.Prelude.{ℕ, List, [], ◌∷◌, ◌++◌, Option, Some, None, Result, Ok, Err, if◌then◌else◌}
use Rattle.np_code_points.specs.Lines.{Numbered}
use Rattle.np_code_points.specs.inside.LineCuts.{is_empty, data_lines_in}
use Rattle.np_ucd.specs.inside.ExclusionReading.{entry_text}
use Rattle.np_foldings.specs.declared.heads.Head.{Head}
use Rattle.np_foldings.specs.Faults.{RecordFault, FoldingFault, BadRecord}
use Rattle.np_foldings.specs.Foldings.{Folding}
use Rattle.np_foldings.specs.inside.RecordReading.{Record, judged, foldings_of}

abbrev pub onto : List Folding → Result (List Folding) FoldingFault → Result (List Folding) FoldingFault
onto done (Ok foldings) = Ok (done ++ foldings)
onto done (Err fault) = Err fault

-- a fault hides what is behind it
abbrev pub and_rest : Result (List Folding) FoldingFault → Result (List Folding) FoldingFault → Result (List Folding) FoldingFault
and_rest (Ok foldings) rest = onto foldings rest
and_rest (Err fault) rest = Err fault

abbrev pub at_line : ℕ → Result Record RecordFault → Result (List Folding) FoldingFault
at_line line (Ok r) = Ok (foldings_of r)
at_line line (Err fault) = Err (BadRecord line fault)

abbrev pub next_head : Result Record RecordFault → Option Head
next_head (Ok r) = Some r.head
next_head (Err fault) = None

unfoldable pub verdict_after : Option Head → List Numbered → Result (List Folding) FoldingFault
verdict_after before [] = Ok []
verdict_after before (r ∷ records) =
    and_rest (at_line r.line (judged before r.text)) (verdict_after (next_head (judged before r.text)) records)

-- a line that says nothing is no record
abbrev pub if_said : ℕ → List ℕ → List Numbered → List Numbered
if_said line text records = if is_empty text then records else record { line = line; text = text } ∷ records

unfoldable pub records_of : List Numbered → List Numbered
records_of [] = []
records_of (r ∷ lines) = if_said r.line (entry_text r.text) (records_of lines)

unfoldable pub records_in : List ℕ → List Numbered
records_in bytes = records_of (data_lines_in bytes)

unfoldable pub verdict_in : List ℕ → Result (List Folding) FoldingFault
verdict_in bytes = verdict_after None (records_in bytes)

-- the same of one line
unfoldable pub line_verdict : Option Head → ℕ → List ℕ → Result (List Folding) FoldingFault
line_verdict before line text =
    if is_empty (entry_text text) then Ok [] else at_line line (judged before (entry_text text))

unfoldable pub head_behind : Option Head → List ℕ → Option Head
head_behind before text =
    if is_empty (entry_text text) then before else next_head (judged before (entry_text text))
