-- What single fields of UnicodeData.txt say, as functions of their bytes; `specs/Fields` and `specs/Mappings` say it in relations.
use Rattle.std.specs.Prelude.{ℕ, ◌+◌, ◌-◌, ◌*◌, Bool, not, ◌&&◌, ◌||◌, ◌==◌, nat_le, List, [], ◌∷◌, length, fold, Option, Some, None, option_map, option_and_then, if◌then◌else◌, codes, nat_eq}
use Rattle.std.specs.List.{list_all, slice_split, ends_with}
use Rattle.np_code_points.specs.declared.words.Dividers.TheVariants.{Spaces}
use Rattle.np_code_points.specs.inside.LineCuts.{after_byte}
use Rattle.np_code_points.specs.inside.WordValues.{scalars_of, if_short}
use Rattle.np_code_points.specs.inside.WordCuts.{divides, after_all, words_of}
use Rattle.np_ucd.specs.Entries.{MapKind, Plain, Canonical, Compatibility}
use Rattle.np_ucd.specs.Mappings.{Mapping}

-- ';' (59) stands between two fields
unfoldable pub fields_of : List ℕ → List (List ℕ)
fields_of line = slice_split (λ b. b == 59) line

abbrev pub is_letter : ℕ → Bool
is_letter b = (nat_le 65 b && nat_le b 90) || (nat_le 97 b && nat_le b 122)

-- General_Category: two ASCII letters, not `Cn`, which no listed code point has
unfoldable pub category_value : List ℕ → Option (List ℕ)
category_value (a ∷ b ∷ []) =
    if is_letter a && is_letter b && not (a == 67 && b == 110) then Some (a ∷ b ∷ []) else None
category_value _ = None

abbrev pub is_digit : ℕ → Bool
is_digit b = nat_le 48 b && nat_le b 57

-- the number that decimal digits write
abbrev pub number_of : List ℕ → ℕ
number_of digits = fold (λ n b. 10 * n + (b - 48)) 0 digits

-- Canonical_Combining_Class: 1 to 3 decimal digits, at most 254
abbrev pub is_class : List ℕ → Bool
is_class digits =
    nat_le 1 (length digits) && nat_le (length digits) 3 && list_all is_digit digits && nat_le (number_of digits) 254

unfoldable pub class_value : List ℕ → Option ℕ
class_value digits = if is_class digits then Some (number_of digits) else None

-- the code points that a text writes, where it writes at least one and at most so many
unfoldable pub short_scalars : ℕ → List ℕ → Option (List ℕ)
short_scalars most text = option_and_then (if_short most) (scalars_of (words_of Spaces text))

abbrev pub listed_mapping : MapKind → ℕ → List ℕ → Option Mapping
listed_mapping kind most text = option_map (λ codes. record { kind = kind; codes = codes }) (short_scalars most text)

-- nothing; or 1 or 2 code points; or '<' (60), a tag up to the next '>' (62), and 1 to 32 code points
abbrev pub mapping_at : List ℕ → Option Mapping
mapping_at [] = Some (record { kind = Plain; codes = [] })
mapping_at (b ∷ bs) =
    if b == 60 then option_and_then (listed_mapping Compatibility 32) (after_byte 62 bs)
    else listed_mapping Canonical 2 (b ∷ bs)

-- spaces before and behind all that count for nothing
unfoldable pub mapping_value : List ℕ → Option Mapping
mapping_value field = mapping_at (after_all (divides Spaces) field)

-- the names of a range's two records end so
unfoldable pub opens_range : List ℕ → Bool
opens_range name = ends_with nat_eq name (codes ", First>")

unfoldable pub closes_range : List ℕ → Bool
closes_range name = ends_with nat_eq name (codes ", Last>")
