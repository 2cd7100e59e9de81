-- How a file is cut into lines, as functions of its bytes; `specs/Lines` says it in relations.
use Rattle.std.specs.Prelude.{◌≡◌, ℕ, ◌+◌, ◌≤◌, Bool, true, false, not, ◌||◌, ◌==◌, List, [], ◌∷◌, length, drop, Option, Some, None, if◌then◌else◌}
use Rattle.std.specs.List.{list_all, prefix_len, slice_split}
use Rattle.np_code_points.specs.Lines.{Numbered, Walk}

-- what stands before the first element that passes, or all where none does
abbrev pub before_first : (ℕ → Bool) → List ℕ → List ℕ
before_first passes [] = []
before_first passes (b ∷ bs) = if passes b then [] else b ∷ before_first passes bs

-- what stands behind the first element that passes, where one does
abbrev pub after_first : (ℕ → Bool) → List ℕ → Option (List ℕ)
after_first passes [] = None
after_first passes (b ∷ bs) = if passes b then Some bs else after_first passes bs

-- the same of the first such byte
abbrev pub before_byte : ℕ → List ℕ → List ℕ
before_byte byte = before_first (λ b. b == byte)

abbrev pub after_byte : ℕ → List ℕ → Option (List ℕ)
after_byte byte = after_first (λ b. b == byte)

-- this byte, or another one
abbrev pub is_byte : ℕ → ℕ → Bool
is_byte byte b = b == byte

abbrev pub is_other : ℕ → ℕ → Bool
is_other byte b = not (b == byte)

abbrev pub is_empty : {X : Type 0} → List X → Bool
is_empty [] = true
is_empty (x ∷ xs) = false

-- the parts, without a last one that is empty
abbrev pub without_last_empty : List (List ℕ) → List (List ℕ)
without_last_empty [] = []
without_last_empty (part ∷ []) = if is_empty part then [] else part ∷ []
without_last_empty (part ∷ next ∷ parts) = part ∷ without_last_empty (next ∷ parts)

-- LF (10) ends a line; a last line without LF is a line; nothing after the last LF is one
unfoldable pub lines_of : List ℕ → List (List ℕ)
lines_of bytes = without_last_empty (slice_split (λ b. b == 10) bytes)

-- one CR (13) at the end of a line is dropped
abbrev pub without_return : List ℕ → List ℕ
without_return [] = []
without_return (b ∷ []) = if b == 13 then [] else b ∷ []
without_return (b ∷ c ∷ cs) = b ∷ without_return (c ∷ cs)

-- a space (32) or a tab (9)
abbrev pub is_blank : ℕ → Bool
is_blank b = b == 32 || b == 9

-- begins with '#' (35)
abbrev pub is_comment : List ℕ → Bool
is_comment [] = false
is_comment (b ∷ bs) = b == 35

-- a line that is empty, or only spaces and tabs, or a comment holds no data
unfoldable pub is_skipped : List ℕ → Bool
is_skipped line = list_all is_blank line || is_comment line

abbrev pub if_data : ℕ → List ℕ → List Numbered → List Numbered
if_data line text lines =
    if is_skipped text then lines else record { line = line; text = text } ∷ lines

-- every line counts, but not every line holds data
unfoldable pub data_lines_from : ℕ → List (List ℕ) → List Numbered
data_lines_from line [] = []
data_lines_from line (bytes ∷ lines) = if_data line (without_return bytes) (data_lines_from (line + 1) lines)

unfoldable pub data_lines_in : List ℕ → List Numbered
data_lines_in bytes = data_lines_from 1 (lines_of bytes)

-- a walk past so many lines, with these bytes left
abbrev pub walk_at : ℕ → List ℕ → Walk
walk_at passed rest = record {
  left = data_lines_from (passed + 1) (lines_of rest);
  passed = passed;
  total = passed + length (lines_of rest);
}

-- another place, where the elements that pass end where those from the first place on do
abbrev pub HasPassed : (ℕ → Bool) → List ℕ → ℕ → ℕ → Type 0
HasPassed p xs from at = record {
  within : at ≤ length xs;
  passed : from + prefix_len p (drop from xs) ≡ at + prefix_len p (drop at xs);
}
