-- CompositionExclusions.txt, line by line (UAX #44, section 4.2).
use Rattle.std.specs.Prelude.{◌≡◌, ℕ, ◌≤◌, List, [], ◌∷◌, ◌++◌, Some, ◌⊎◌}
use Rattle.np_code_points.specs.Codes.{code_value}
use Rattle.np_code_points.specs.Lines.{HasNo, IsBlank, AreBlanks, Numbered, IsDataLine}
use Rattle.np_ucd.specs.Listed.{Span}
use Rattle.np_ucd.specs.Tests.{UcdFault, BadCode}

-- all in front of the first such byte, or all where there is none
abbrev pub StandsBefore : ℕ → List ℕ → List ℕ → Type 0
StandsBefore byte bytes front = HasNo byte front × ((bytes ≡ front) ⊎ ((behind : List ℕ) × (bytes ≡ front ++ byte ∷ behind)))

-- the text between the blanks at both ends, which begins and ends with none itself
pub record IsTrimmed (bytes text : List ℕ) : Type 0 where
  pub front : List ℕ
  pub back : List ℕ
  pub stands : bytes ≡ front ++ (text ++ back)
  pub front_blank : AreBlanks front
  pub back_blank : AreBlanks back
  pub begins : (b : ℕ) (rest : List ℕ) → text ≡ b ∷ rest → IsBlank b → ⊥
  pub ends : (rest : List ℕ) (b : ℕ) → text ≡ rest ++ b ∷ [] → IsBlank b → ⊥

-- what a line says: without a comment from '#' (35) on, and the blanks around
pub record SaysText (line text : List ℕ) : Type 0 where
  pub entry : List ℕ
  pub uncommented : StandsBefore 35 line entry
  pub trimmed : IsTrimmed entry text

-- a code point
abbrev pub IsOneCode : List ℕ → Span → Type 0
IsOneCode text span = (code_value text ≡ Some span.first) × (span.last ≡ span.first)

-- two of them, the second not smaller, with ".." (46 is '.') between
pub record IsCodeRange (text : List ℕ) (span : Span) : Type 0 where
  pub low : List ℕ
  pub high : List ℕ
  pub stands : text ≡ low ++ 46 ∷ 46 ∷ high
  pub first : code_value low ≡ Some span.first
  pub last : code_value high ≡ Some span.last
  pub rises : span.first ≤ span.last

-- A line lists nothing, or the code points from first to last, or it can't be read.
abbrev pub ListsNothing : List ℕ → Type 0
ListsNothing line = SaysText line []

abbrev pub ListsSpan : List ℕ → Span → Type 0
ListsSpan line span = (text : List ℕ) × SaysText line text × (IsOneCode text span ⊎ IsCodeRange text span)

abbrev pub IsReadable : List ℕ → Type 0
IsReadable line = ListsNothing line ⊎ ((span : Span) × ListsSpan line span)

-- the line of this number can't be read
pub record IsBadLine (bytes : List ℕ) (number : ℕ) : Type 0 where
  pub line : Numbered
  pub is : IsDataLine bytes line
  pub at : line.line ≡ number
  pub bad : IsReadable line.text → ⊥

-- the first fault: the least of the lines that can't be read
pub record IsFirstBadLine (bytes : List ℕ) (fault : UcdFault) : Type 0 where
  pub number : ℕ
  pub fault_is : fault ≡ BadCode number
  pub bad : IsBadLine bytes number
  pub least : (other : ℕ) → IsBadLine bytes other → number ≤ other

-- each line can be read
abbrev pub AreReadable : List ℕ → Type 0
AreReadable bytes = (number : ℕ) → IsBadLine bytes number → ⊥

-- a line lists code points, and this one lies among them
pub record IsListedIn (bytes : List ℕ) (code : ℕ) : Type 0 where
  pub line : Numbered
  pub is : IsDataLine bytes line
  pub span : Span
  pub lists : ListsSpan line.text span
  pub begun : span.first ≤ code
  pub reached : code ≤ span.last
