-- The records of the code as contracts see them.
use Rattle.std.specs.Prelude.{◌≡◌, ℕ, List, [], ◌∷◌, Option, Some, None, Result, Err, ◌⊎◌}
use Rattle.np_code_points.specs.Inputs.{IsReadPastLimit}
use Rattle.np_ucd.specs.Reading.{IsReadInPart}
use Rattle.np_foldings.specs.declared.fields.Fields.{Fields as CodeFields}
use Rattle.np_foldings.specs.declared.foldings.Folding.{Folding as CodeFolding}
use Rattle.np_foldings.specs.declared.records.Record.{Record as CodeRecord}
use Rattle.np_foldings.specs.Faults.{RecordFault, FoldingFault, BadRecord, TooLarge, ReadFailed, Memory}
use Rattle.np_foldings.specs.Fields.{Fields}
use Rattle.np_foldings.specs.Foldings.{Folding}
use Rattle.np_foldings.specs.FoldingValues.{folding_of}
use Rattle.np_foldings.specs.inside.RecordReading.{Record}

abbrev pub fields_said : CodeFields → Fields
fields_said f = record { code = f.code.now; status = f.status.now; mapping = f.mapping.now }

abbrev pub record_of : CodeRecord → Record
record_of r = record { head = r.head; mapping = r.mapping.items }

abbrev pub listed : Option CodeFolding → List Folding
listed None = []
listed (Some f) = folding_of f ∷ []

-- want of memory, or the fault that is there
abbrev pub IsMemoryOr : ℕ → Result Record RecordFault → FoldingFault → Type 0
IsMemoryOr line judged e = (e ≡ Memory) ⊎ ((fault : RecordFault) × (judged ≡ Err fault) × (e ≡ BadRecord line fault))

abbrev pub IsMemoryOrErr : Result (List Folding) FoldingFault → FoldingFault → Type 0
IsMemoryOrErr verdict e = (e ≡ Memory) ⊎ (verdict ≡ Err e)

-- why a file was not read whole, as `specs/Reading` says it
abbrev pub IsUnread : Option (List ℕ) → Option (List ℕ) → FoldingFault → Type 0
IsUnread before after TooLarge = IsReadPastLimit before after
IsUnread before after ReadFailed = IsReadInPart before after
IsUnread before after Memory = IsReadInPart before after
IsUnread before after (BadRecord line fault) = ⊥
