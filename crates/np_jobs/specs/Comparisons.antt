-- How `compare` ends.
use Rattle.std.specs.Prelude.{◌≡◌, ◌≢◌, ℕ, ◌⊎◌, ◌↔◌, Bool, List, [], ◌∷◌, ◌++◌, IsTrue, chars, codes, if◌then◌else◌}
use Rattle.np_code_points.specs.Forms.{is_compat}
use Rattle.np_code_points.specs.Lines.{HasNo}
use Rattle.np_code_points.specs.declared.forms.Form.{Form}
use Rattle.np_forms.specs.Assigned.{IsAssigned, IsFirstUnassigned}
use Rattle.np_forms.specs.Forms.{IsEquivalent}
use Rattle.np_versions.specs.Versions.{VersionData}
use Rattle.np_jobs.specs.Streams.{Stream}
use Rattle.np_jobs.specs.Texts.{TextEnds, TextReaders}
use Rattle.np_jobs.specs.declared.faults.TextFault.{TextFault}
use Rattle.np_jobs.specs.declared.faults.TextFault.TheVariants.{TwoLinesWanted, FirstUnassigned, SecondUnassigned, Memory}

-- all but one LF (10) at the very end, if it is there
abbrev pub IsWithoutLastFeed : List ℕ → List ℕ → Type 0
IsWithoutLastFeed bytes kept = (bytes ≡ kept ++ 10 ∷ []) ⊎ (((front : List ℕ) → bytes ≢ front ++ 10 ∷ []) × (bytes ≡ kept))

-- the first string ends before the first LF; the second is the rest, without one LF at its very end
pub record AreTwoLines (bytes first second : List ℕ) : Type 0 where
  pub rest : List ℕ
  pub cut : bytes ≡ first ++ 10 ∷ rest
  pub least : HasNo 10 first
  pub last : IsWithoutLastFeed rest second

abbrev pub answer_text : Bool → List ℕ
answer_text is_yes = if is_yes then codes "equal\n" else codes "different\n"

-- whether two strings are equivalent, canonically, or compatibly for NFKD and NFKC, of which each is assigned
pub record IsComparison (form : Form) (v : VersionData) (first second : List ℕ) (is_yes : Bool) : Type 0 where
  pub first_assigned : IsAssigned v (chars first)
  pub second_assigned : IsAssigned v (chars second)
  pub answer : IsTrue is_yes ↔ IsEquivalent v (is_compat form) (chars first) (chars second)

-- the first string's first unassigned code point; or the second's, where the first is assigned
abbrev pub LacksAssigned : VersionData → List ℕ → List ℕ → TextFault → Type 0
LacksAssigned v first second fault =
    ((at : ℕ) × (code : ℕ) × (fault ≡ FirstUnassigned at code) × IsFirstUnassigned v (chars first) at code)
    ⊎ ((at : ℕ) × (code : ℕ) × (fault ≡ SecondUnassigned at code) × IsAssigned v (chars first) × IsFirstUnassigned v (chars second) at code)

-- one of the two isn't assigned; or memory ran out, where both are
abbrev pub LacksComparison : VersionData → List ℕ → List ℕ → TextFault → Type 0
LacksComparison v first second fault =
    LacksAssigned v first second fault ⊎ ((fault ≡ Memory) × IsAssigned v (chars first) × IsAssigned v (chars second))

-- the comparison of the two lines of a text
pub record IsCompareOutput (form : Form) (v : VersionData) (text : List ℕ) (is_yes : Bool) (bytes : List ℕ) : Type 0 where
  pub first : List ℕ
  pub second : List ℕ
  pub lines : AreTwoLines text first second
  pub is : IsComparison form v first second is_yes
  pub bytes_are : bytes ≡ answer_text is_yes

-- the text has no LF, or its two lines can't be compared
abbrev pub LacksCompareOutput : VersionData → List ℕ → TextFault → Type 0
LacksCompareOutput v text fault =
    ((fault ≡ TwoLinesWanted) × HasNo 10 text)
    ⊎ ((first : List ℕ) × (second : List ℕ) × AreTwoLines text first second × LacksComparison v first second fault)

-- `compare`: whether the two lines of the input are equivalent
abbrev pub CompareEnds : Form → TextReaders → Stream → Stream → ℕ → Type 0
CompareEnds form readers output error status = TextEnds (IsCompareOutput form) LacksCompareOutput readers output error status
