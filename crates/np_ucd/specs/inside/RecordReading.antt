-- The tests of a record of UnicodeData.txt and the row that it ends, as functions of its bytes; `specs/Tests` and
-- `specs/AllRows` say it in relations.
use Rattle.std.specs.Prelude.{◌≡◌, ℕ, Bool, false, not, ◌&&◌, ◌||◌, ◌==◌, nat_le, List, [], ◌∷◌, ◌++◌, length, Option, Some, None, is_none, unwrap_or, if◌then◌else◌, slice_index_or}
use Rattle.std.specs.Str.{bytes_eq}
use lib.Utf8.{scalar}
use Rattle.np_code_points.specs.Codes.{code_value}
use Rattle.np_code_points.specs.inside.LineCuts.{is_empty}
use Rattle.np_ucd.specs.Entries.{Entry, Plain}
use Rattle.np_ucd.specs.Mappings.{Mapping}
use Rattle.np_ucd.specs.Tests.{UcdFault, FieldCount, BadCode, OutOfOrder, BadCategory, BadClass, BadMapping, RangeOpen, RangeLone, RangeDiffers, RangeMaps}
use Rattle.np_ucd.specs.inside.FieldReading.{fields_of, category_value, class_value, mapping_value, opens_range, closes_range}

-- The fields of a record that are read, from 0.
unfoldable pub field : ℕ → List ℕ → List ℕ
field k text = slice_index_or (fields_of text) k []

-- What they say; where a field can't be read, any value, since the record is faulty then.
unfoldable pub code_in : List ℕ → ℕ
code_in text = unwrap_or (code_value (field 0 text)) 0

unfoldable pub category_in : List ℕ → List ℕ
category_in text = unwrap_or (category_value (field 2 text)) []

unfoldable pub class_in : List ℕ → ℕ
class_in text = unwrap_or (class_value (field 3 text)) 0

unfoldable pub mapping_in : List ℕ → Mapping
mapping_in text = unwrap_or (mapping_value (field 5 text)) (record { kind = Plain; codes = [] })

abbrev pub opens : List ℕ → Bool
opens text = opens_range (field 1 text)

abbrev pub closes : List ℕ → Bool
closes text = closes_range (field 1 text)

abbrev pub maps : List ℕ → Bool
maps text = not (is_empty (mapping_in text).codes)

-- What the next record is held against.
pub record Neighbour : Type 0 where
  pub line : ℕ
  pub code : ℕ
  pub category : List ℕ
  pub class : ℕ
  -- begins a range
  pub opens : Bool

unfoldable pub neighbour_of : ℕ → List ℕ → Neighbour
neighbour_of line text =
    record { line = line; code = code_in text; category = category_in text; class = class_in text; opens = opens text }

abbrev pub is_open : Option Neighbour → Bool
is_open None = false
is_open (Some b) = b.opens

-- The tests of single fields.

unfoldable pub has_other_count : List ℕ → Bool
has_other_count text = not (length (fields_of text) == 15)

unfoldable pub has_bad_code : List ℕ → Bool
has_bad_code text = is_none (code_value (field 0 text))

abbrev pub is_at_most : ℕ → Option Neighbour → Bool
is_at_most code None = false
is_at_most code (Some b) = nat_le code b.code

unfoldable pub is_out_of_order : Option Neighbour → List ℕ → Bool
is_out_of_order before text = is_at_most (code_in text) before

unfoldable pub has_bad_category : List ℕ → Bool
has_bad_category text = is_none (category_value (field 2 text))

unfoldable pub has_bad_class : List ℕ → Bool
has_bad_class text = is_none (class_value (field 3 text))

unfoldable pub has_unread_mapping : List ℕ → Bool
has_unread_mapping text = is_none (mapping_value (field 5 text))

abbrev pub early_tests : Option Neighbour → ℕ → List ℕ → List (Bool × UcdFault)
early_tests before line text =
    (has_other_count text, FieldCount line)
    ∷ (has_bad_code text, BadCode line)
    ∷ (is_out_of_order before text, OutOfOrder line)
    ∷ (has_bad_category text, BadCategory line)
    ∷ (has_bad_class text, BadClass line)
    ∷ (has_unread_mapping text, BadMapping line)
    ∷ []

-- The tests that follow once all fields are read: of what was read, and of the record before.

abbrev pub differs : Option Neighbour → Neighbour → Bool
differs None n = false
differs (Some b) n = not (bytes_eq n.category b.category) || not (n.class == b.class)

abbrev pub late_tests : Option Neighbour → Neighbour → Bool → Bool → List (Bool × UcdFault)
late_tests before n closing mapped =
    (mapped && not (scalar n.code), BadMapping n.line)
    ∷ (is_open before && not closing, RangeOpen n.line)
    ∷ (closing && not (is_open before), RangeLone n.line)
    ∷ (closing && differs before n, RangeDiffers n.line)
    ∷ ((n.opens || closing) && mapped, RangeMaps n.line)
    ∷ []

-- the first test that fits names the fault
abbrev pub first_that_fits : List (Bool × UcdFault) → Option UcdFault
first_that_fits [] = None
first_that_fits (test ∷ tests) = if test.0 then Some test.1 else first_that_fits tests

-- the tests of a record behind the record before, and the faults that they name, at the line of this number
unfoldable pub record_tests : Option Neighbour → ℕ → List ℕ → List (Bool × UcdFault)
record_tests before line text =
    early_tests before line text ++ late_tests before (neighbour_of line text) (closes text) (maps text)

unfoldable pub record_fault : Option Neighbour → ℕ → List ℕ → Option UcdFault
record_fault before line text = first_that_fits (record_tests before line text)

-- a range's row begins with the code point of its first record
abbrev pub first_code : Option Neighbour → Bool → ℕ → ℕ
first_code None closing code = code
first_code (Some b) closing code = if closing then b.code else code

-- the row that a record ends, its own or its range's
unfoldable pub row_of : Option Neighbour → List ℕ → Entry
row_of before text = record {
  first = first_code before (closes text) (code_in text);
  last = code_in text;
  class = class_in text;
  kind = (mapping_in text).kind;
  mapping = (mapping_in text).codes;
}

-- a range's first record has no row of its own
abbrev pub record_rows : Option Neighbour → List ℕ → List Entry
record_rows before text = if opens text then [] else row_of before text ∷ []

-- a record without a mapping that is no part of a range, and stands where none is open
abbrev pub IsPlain : Option Neighbour → Bool → Bool → List ℕ → Type 0
IsPlain before opening closing mapping = record {
  bare : mapping ≡ [];
  opening : opening ≡ false;
  closing : closing ≡ false;
  shut : is_open before ≡ false;
}

-- the row of such a record
abbrev pub plain_entry : ℕ → ℕ → Entry
plain_entry code class = record { first = code; last = code; class = class; kind = Plain; mapping = [] }
