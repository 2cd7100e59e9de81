-- The answer to a line.
use Rattle.std.specs.Prelude.{◌≡◌, ◌⊎◌, ℕ, ◌<◌, ◌≤◌, Bool, false, ◌==◌, List, [], ◌∷◌, ◌++◌, length, chars, codes, encode_utf8_all, IsUtf8}
use Rattle.std.specs.Fmt.{decimal}
use Rattle.std.specs.List.{AllZip}
use Rattle.np_code_points.specs.Codes.{unassigned}
use Rattle.np_code_points.specs.Lines.{HasNo}
use Rattle.np_code_points.specs.Text.{IsLongestValidPrefix}
use Rattle.np_code_points.specs.declared.forms.Form.{Form}
use Rattle.np_forms.specs.Assigned.{IsAssigned, IsFirstUnassigned}
use Rattle.np_forms.specs.Forms.{IsNormalForm}
use Rattle.np_versions.specs.Versions.{VersionData}
use Rattle.np_lines.specs.Lines.{LineEnd, byte_of}
pub use Rattle.np_lines.specs.declared.lines.Wanted.{Wanted}

-- the most bytes that a line may have, without the byte that ends it
abbrev pub most_bytes : ℕ
most_bytes = 65536

-- the key of a line, by what the key of a string of code points is: the line is a text of assigned code points, and this is its key
pub record IsKeyBy (IsKeyOf : List ℕ → List ℕ → Type 0) (v : VersionData) (line key : List ℕ) : Type 0 where
  pub valid : IsUtf8 line
  pub assigned : IsAssigned v (chars line)
  pub list : List ℕ
  pub is : IsKeyOf (chars line) list
  pub key_is : key ≡ encode_utf8_all list

-- the stabilized string of a line (UAX #15 section 12): its normal form
abbrev pub IsKey : VersionData → Form → List ℕ → List ℕ → Type 0
IsKey v form = IsKeyBy (IsNormalForm v form) v

-- a line is no UTF-8 behind its longest prefix that is
pub record IsNoText (line : List ℕ) (at : ℕ) : Type 0 where
  pub invalid : ¬ IsUtf8 line
  pub longest : IsLongestValidPrefix line at

-- a line is a text, and this is the first of its code points that is not assigned
pub record IsUnassigned (v : VersionData) (line : List ℕ) (at code : ℕ) : Type 0 where
  pub valid : IsUtf8 line
  pub first : IsFirstUnassigned v (chars line) at code

-- '=' (61) and the key
abbrev pub told_key : List ℕ → List ℕ
told_key key = 61 ∷ key

-- '!' (33) and why there is no key
abbrev pub told_refusal : List ℕ → List ℕ
told_refusal why = 33 ∷ why

abbrev pub not_utf8 : ℕ → List ℕ
not_utf8 at = codes "not UTF-8 at byte " ++ decimal at

-- the key is told, unless it has the byte that ends lines: a version may map to it
abbrev pub IsToldKey : LineEnd → List ℕ → List ℕ → Type 0
IsToldKey end key answer =
    (HasNo (byte_of end) key × (answer ≡ told_key key))
    ⊎ ((¬ HasNo (byte_of end) key) × (answer ≡ told_refusal (codes "line end in key")))

-- the answer to a line within the limit: where it stops being text; else its first code point that is not assigned; else its key
abbrev pub IsAnswerWithinBy : (List ℕ → List ℕ → Type 0) → VersionData → LineEnd → List ℕ → List ℕ → Type 0
IsAnswerWithinBy IsKeyOf v end line answer =
    ((at : ℕ) × IsNoText line at × (answer ≡ told_refusal (not_utf8 at)))
    ⊎ (((at : ℕ) × (code : ℕ) × IsUnassigned v line at code × (answer ≡ told_refusal (unassigned at code)))
    ⊎ ((key : List ℕ) × IsKeyBy IsKeyOf v line key × IsToldKey end key answer))

-- the answer to a line, without the byte that ends it; one that is too long is refused whatever it has
abbrev pub IsAnswerBy : (List ℕ → List ℕ → Type 0) → VersionData → LineEnd → List ℕ → List ℕ → Type 0
IsAnswerBy IsKeyOf v end line answer =
    ((most_bytes < length line) × (answer ≡ told_refusal (codes "too long")))
    ⊎ ((length line ≤ most_bytes) × IsAnswerWithinBy IsKeyOf v end line answer)

-- the answer to a line whose key is its stabilized string
abbrev pub IsAnswer : VersionData → Wanted → List ℕ → List ℕ → Type 0
IsAnswer v wanted = IsAnswerBy (IsNormalForm v wanted.form) v wanted.end

-- each line has its answer, in the order of the lines
abbrev pub AreAnswers : VersionData → Wanted → List (List ℕ) → List (List ℕ) → Type 0
AreAnswers v wanted lines answers = AllZip (IsAnswer v wanted) lines answers

-- an answer is a refusal: its first byte decides
abbrev pub is_refusal : List ℕ → Bool
is_refusal [] = false
is_refusal (b ∷ bs) = b == 33
