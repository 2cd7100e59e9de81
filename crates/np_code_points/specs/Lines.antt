-- The lines of a file, and those that hold data (UAX #44, section 4.2).
use Rattle.std.specs.Prelude.{◌≡◌, ◌≢◌, ℕ, ◌+◌, ◌<◌, List, [], ◌∷◌, ◌++◌, length, Option, MatchOption, ◌⊎◌}
use Rattle.std.specs.Iterator.{YieldsFirstBy}
use Rattle.std.specs.List.{All, AllPairs, Contains}
use Rattle.np_code_points.specs.declared.lines.DataLine.{DataLine}

-- no such byte is among them
abbrev pub HasNo : ℕ → List ℕ → Type 0
HasNo byte bytes = All (λ b. b ≢ byte) bytes

-- No line where there are no bytes. Else a line without LF (10), and then an LF and the lines of the
-- rest, or the end of the file; no line that is empty stands at the end without its LF.
abbrev pub AreLines : List ℕ → List (List ℕ) → Type 0
AreLines bytes [] = bytes ≡ []
AreLines bytes (line ∷ lines) =
    HasNo 10 line × (((rest : List ℕ) × (bytes ≡ line ++ 10 ∷ rest) × AreLines rest lines) ⊎ ((bytes ≡ line) × (line ≢ []) × (lines ≡ [])))

-- A line without the CR (13) at its end, one of them where there are more; or the line, which ends in none.
abbrev pub DropsReturn : List ℕ → List ℕ → Type 0
DropsReturn line text = (line ≡ text ++ 13 ∷ []) ⊎ ((line ≡ text) × ((front : List ℕ) → text ≢ front ++ 13 ∷ []))

-- a space (32) or a tab (9)
abbrev pub IsBlank : ℕ → Type 0
IsBlank b = (b ≡ 32) ⊎ (b ≡ 9)

abbrev pub AreBlanks : List ℕ → Type 0
AreBlanks bytes = All IsBlank bytes

-- Such a line counts, but holds no data: it has only blanks, or is a comment, which begins with '#' (35).
abbrev pub IsSkipped : List ℕ → Type 0
IsSkipped text = AreBlanks text ⊎ ((rest : List ℕ) × (text ≡ 35 ∷ rest))

-- the number of a line, from 1, and its text
pub record Numbered : Type 0 where
  pub line : ℕ
  pub text : List ℕ

-- a line of the code as contracts see it
abbrev pub numbered : DataLine → Numbered
numbered line = record { line = line.number; text = line.text.now }

-- a line that holds data stands at this number
pub record IsDataLine (bytes : List ℕ) (r : Numbered) : Type 0 where
  pub before : List (List ℕ)
  pub line : List ℕ
  pub behind : List (List ℕ)
  pub lines : AreLines bytes (before ++ line ∷ behind)
  pub counted : r.line ≡ length before + 1
  pub returned : DropsReturn line r.text
  pub counts : IsSkipped r.text → ⊥

-- all of them, and nothing else, from line to line
pub record AreDataLines (bytes : List ℕ) (lines : List Numbered) : Type 0 where
  pub rise : AllPairs (λ r s. r.line < s.line) lines
  pub each : All (IsDataLine bytes) lines
  pub all : (r : Numbered) → IsDataLine bytes r → Contains lines r

-- A walk over the data lines of a file: those that are left, how many lines it went past, and how many lines
-- the file has, the skipped ones included.
pub record Walk : Type 0 where
  pub left : List Numbered
  pub passed : ℕ
  pub total : ℕ

-- a step takes the first line that is left; where none is, all lines were passed
pub record TakesLine (old : Walk) (result : Option DataLine) (new : Walk) : Type 0 where
  pub gives : YieldsFirstBy numbered (λ (w : Walk). w.left) old result new
  pub passed : MatchOption result (new.passed ≡ old.total) (λ line. new.passed ≡ line.number)
  pub total : new.total ≡ old.total
