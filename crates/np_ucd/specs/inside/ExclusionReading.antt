-- What CompositionExclusions.txt lists and its first fault, as functions of its bytes; `specs/Exclusions` says it in relations.
use Rattle.std.specs.Prelude.{ℕ, nat_le, List, [], ◌∷◌, ◌++◌, ◌==◌, Option, Some, None, option_map, if◌then◌else◌}
use Rattle.std.specs.Option.{option_and_then}
use Rattle.std.specs.List.{list_all}
use Rattle.np_code_points.specs.Codes.{code_value}
use Rattle.np_code_points.specs.Lines.{Numbered}
use Rattle.np_code_points.specs.declared.words.Dividers.TheVariants.{Blanks}
use Rattle.np_code_points.specs.inside.LineCuts.{before_byte, after_byte, is_empty, is_blank, data_lines_in}
use Rattle.np_code_points.specs.inside.WordCuts.{divides, after_all}
use Rattle.np_ucd.specs.Listed.{Span}
use Rattle.np_ucd.specs.Tests.{UcdFault, BadCode}

-- without the spaces and tabs at its end
abbrev pub before_blanks : List ℕ → List ℕ
before_blanks [] = []
before_blanks (b ∷ bs) = if list_all is_blank (b ∷ bs) then [] else b ∷ before_blanks bs

-- a line counts up to its first '#' (35), and not the spaces and tabs around
abbrev pub entry_text : List ℕ → List ℕ
entry_text line = before_blanks (after_all (divides Blanks) (before_byte 35 line))

-- the code points from one to another that is not smaller
abbrev pub if_rising : ℕ → ℕ → Option Span
if_rising first last = if nat_le first last then Some (record { first = first; last = last }) else None

abbrev pub span_between : List ℕ → List ℕ → Option Span
span_between first last =
    option_and_then (λ a. option_and_then (λ b. if_rising a b) (code_value last)) (code_value first)

-- behind the first '.' (46) stands another, and then the last code point
abbrev pub if_dotted : List ℕ → List ℕ → Option Span
if_dotted first [] = None
if_dotted first (b ∷ bs) = if b == 46 then span_between first bs else None

-- X, or X..Y
abbrev pub span_at : List ℕ → Option (List ℕ) → Option Span
span_at first None = span_between first first
span_at first (Some behind) = if_dotted first behind

unfoldable pub span_value : List ℕ → Option Span
span_value text = span_at (before_byte 46 text) (after_byte 46 text)

-- what a line lists, where it can be read: nothing, or a span
unfoldable pub line_spans : List ℕ → Option (List Span)
line_spans line =
    if is_empty (entry_text line) then Some [] else option_map (λ span. span ∷ []) (span_value (entry_text line))

-- a line that can't be read is a fault; of the others the first fault of the lines behind
abbrev pub fault_at : ℕ → Option (List Span) → Option UcdFault → Option UcdFault
fault_at line None rest = Some (BadCode line)
fault_at line (Some spans) rest = rest

unfoldable pub spans_fault : List Numbered → Option UcdFault
spans_fault [] = None
spans_fault (r ∷ lines) = fault_at r.line (line_spans r.text) (spans_fault lines)

abbrev pub and_spans : Option (List Span) → List Span → List Span
and_spans None rest = rest
and_spans (Some spans) rest = spans ++ rest

unfoldable pub spans_of : List Numbered → List Span
spans_of [] = []
spans_of (r ∷ lines) = and_spans (line_spans r.text) (spans_of lines)

-- the first fault of a file, if it has one, and what it lists, if it has none
unfoldable pub exclusions_fault : List ℕ → Option UcdFault
exclusions_fault bytes = spans_fault (data_lines_in bytes)

unfoldable pub spans_in : List ℕ → List Span
spans_in bytes = spans_of (data_lines_in bytes)
