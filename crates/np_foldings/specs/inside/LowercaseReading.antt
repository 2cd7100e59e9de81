-- The lowercases of UnicodeData.txt, as functions of its bytes; `specs/Lowercases` says it in relations.
use Rattle.std.specs.Prelude.{ℕ, ◌||◌, List, [], ◌∷◌, ◌++◌, Option, Some, None, if◌then◌else◌}
use Rattle.np_code_points.specs.Codes.{code_value}
use Rattle.np_code_points.specs.Lines.{Numbered}
use Rattle.np_code_points.specs.declared.words.Dividers.TheVariants.{Spaces}
use Rattle.np_code_points.specs.inside.LineCuts.{data_lines_in}
use Rattle.np_code_points.specs.inside.WordCuts.{words_of}
use Rattle.np_ucd.specs.inside.FieldReading.{opens_range, closes_range}
use Rattle.np_ucd.specs.inside.RecordReading.{field}
use Rattle.np_foldings.specs.Lowercases.{Lowercase}

-- one word that is a code
abbrev pub word_code : List (List ℕ) → Option ℕ
word_code [] = None
word_code (word ∷ []) = code_value word
word_code (word ∷ next ∷ words) = None

abbrev pub pair_of : Option ℕ → Option ℕ → List Lowercase
pair_of None lower = []
pair_of (Some code) None = []
pair_of (Some code) (Some lower) = record { code = code; lower = lower } ∷ []

-- the lowercase of a record, if it has one
unfoldable pub said_lower : List ℕ → List Lowercase
said_lower text =
    if opens_range (field 1 text) || closes_range (field 1 text)
    then []
    else pair_of (code_value (field 0 text)) (word_code (words_of Spaces (field 13 text)))

unfoldable pub lowers_of : List Numbered → List Lowercase
lowers_of [] = []
lowers_of (r ∷ lines) = said_lower r.text ++ lowers_of lines

unfoldable pub lowers_in : List ℕ → List Lowercase
lowers_in bytes = lowers_of (data_lines_in bytes)

abbrev pub listed_lower : Option Lowercase → List Lowercase
listed_lower None = []
listed_lower (Some pair) = pair ∷ []
