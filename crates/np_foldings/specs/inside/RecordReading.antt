-- The tests of a record and what it says, as functions of its bytes; `specs/Tests` and `specs/AllFoldings` say it in
-- relations.
use Rattle.std.specs.Prelude.{ℕ, List, [], ◌∷◌, Option, Some, None, Result, Ok, Err, if◌then◌else◌}
use Rattle.std.specs.Str.{bytes_eq}
use lib.Utf8.{scalar}
use Rattle.np_code_points.specs.Codes.{code_value}
use Rattle.np_foldings.specs.declared.heads.Head.{Head}
use Rattle.np_foldings.specs.Faults.{RecordFault, FieldCount, BadCode, BadStatus, OutOfOrder, StatusConflict, BadMapping}
use Rattle.np_foldings.specs.Fields.{Fields}
use Rattle.np_foldings.specs.Foldings.{Folding}
use Rattle.np_foldings.specs.Statuses.{Status, Common, Full, Simple, Turkic}
use Rattle.np_foldings.specs.inside.FieldReading.{fields_value, status_value, mapping_value}
use Rattle.np_foldings.specs.inside.HeadReading.{is_out_of_order, conflicts}

pub record Record : Type 0 where
  pub head : Head
  pub mapping : List ℕ

-- the first test that fits names the fault, from field to field
abbrev pub mapped : Head → Option (List ℕ) → Result Record RecordFault
mapped head None = Err BadMapping
mapped head (Some codes) = if scalar head.code then Ok (record { head = head; mapping = codes }) else Err BadMapping

abbrev pub headed : Option Head → List ℕ → Head → Result Record RecordFault
headed before field head =
    if is_out_of_order before head then Err OutOfOrder
    else if conflicts before head then Err StatusConflict
    else mapped head (mapping_value head.status field)

abbrev pub with_status : Option Head → Fields → ℕ → Option Status → Result Record RecordFault
with_status before f code None = Err BadStatus
with_status before f code (Some status) = headed before f.mapping (record { code = code; status = status })

abbrev pub with_code : Option Head → Fields → Option ℕ → Result Record RecordFault
with_code before f None = Err BadCode
with_code before f (Some code) = with_status before f code (status_value f.status)

abbrev pub with_fields : Option Head → Option Fields → Result Record RecordFault
with_fields before None = Err FieldCount
with_fields before (Some f) = with_code before f (code_value f.code)

unfoldable pub judged : Option Head → List ℕ → Result Record RecordFault
judged before text = with_fields before (fields_value text)

-- the folding to a mapping, where that is not the code point alone
abbrev pub changing : ℕ → List ℕ → List Folding
changing code mapping = if bytes_eq mapping (code ∷ []) then [] else record { code = code; mapping = mapping } ∷ []

abbrev pub foldings_as : Status → ℕ → List ℕ → List Folding
foldings_as Common code mapping = changing code mapping
foldings_as Full code mapping = changing code mapping
foldings_as Simple code mapping = []
foldings_as Turkic code mapping = []

abbrev pub foldings_of : Record → List Folding
foldings_of r = foldings_as r.head.status r.head.code r.mapping
