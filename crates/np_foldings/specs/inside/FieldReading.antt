-- What the fields of a record say, as functions of their bytes; `specs/Fields` says it in relations.
use Rattle.std.specs.Prelude.{ℕ, Bool, false, ◌==◌, nat_le, List, [], ◌∷◌, length, Option, Some, None, if◌then◌else◌}
use Rattle.std.specs.Option.{option_and_then}
use Rattle.np_code_points.specs.inside.LineCuts.{is_empty}
use Rattle.np_ucd.specs.inside.ExclusionReading.{entry_text}
use Rattle.np_ucd.specs.inside.FieldReading.{fields_of, short_scalars}
use Rattle.np_foldings.specs.Fields.{Fields}
use Rattle.np_foldings.specs.Statuses.{Status, Common, Full, Simple, Turkic}

-- one field, which is empty
abbrev pub ends_empty : List (List ℕ) → Bool
ends_empty [] = false
ends_empty (d ∷ []) = is_empty (entry_text d)
ends_empty (d ∷ e ∷ fs) = false

-- four fields, of which the last one is empty
abbrev pub four : List (List ℕ) → Option Fields
four [] = None
four (a ∷ []) = None
four (a ∷ b ∷ []) = None
four (a ∷ b ∷ c ∷ ds) =
    if ends_empty ds then Some (record { code = entry_text a; status = entry_text b; mapping = entry_text c }) else None

unfoldable pub fields_value : List ℕ → Option Fields
fields_value text = four (fields_of text)

abbrev pub letter_status : ℕ → Option Status
letter_status b =
    if b == 67 then Some Common else if b == 70 then Some Full else if b == 83 then Some Simple else if b == 84 then Some Turkic else None

abbrev pub status_at : List ℕ → Option Status
status_at [] = None
status_at (b ∷ []) = letter_status b
status_at (b ∷ c ∷ cs) = None

unfoldable pub status_value : List ℕ → Option Status
status_value field = status_at field

-- how many code points a mapping of this status may have, of those between 1 and 32
abbrev pub counted : Status → ℕ → Bool
counted Full n = nat_le 2 n
counted Common n = n == 1
counted Simple n = n == 1
counted Turkic n = n == 1

abbrev pub if_counted : Status → List ℕ → Option (List ℕ)
if_counted status codes = if counted status (length codes) then Some codes else None

unfoldable pub mapping_value : Status → List ℕ → Option (List ℕ)
mapping_value status field = option_and_then (if_counted status) (short_scalars 32 field)
