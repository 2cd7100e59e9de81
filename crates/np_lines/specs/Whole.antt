-- The answers to all lines of some bytes.
use Rattle.std.specs.Prelude.{◌≡◌, ℕ, Bool, List}
use Rattle.std.specs.List.{AllZip, list_any}
use Rattle.np_versions.specs.Versions.{VersionData}
use Rattle.np_lines.specs.Answers.{Wanted, IsAnswer, is_refusal}
use Rattle.np_lines.specs.Lines.{LineEnd, AreLines, ended}

-- all lines of the bytes were answered, in their order, each answer with the byte that ends it; and whether one is a refusal
pub record IsAllAnsweredBy (Is : List ℕ → List ℕ → Type 0) (end : LineEnd) (bytes made : List ℕ) (any_refused : Bool) : Type 0 where
  pub lines : List (List ℕ)
  pub lines_are : AreLines end bytes lines
  pub answers : List (List ℕ)
  pub answers_are : AllZip Is lines answers
  pub made_is : made ≡ ended end answers
  pub told : any_refused ≡ list_any is_refusal answers

-- with their stabilized strings
abbrev pub IsAllAnswered : VersionData → Wanted → List ℕ → List ℕ → Bool → Type 0
IsAllAnswered v wanted = IsAllAnsweredBy (IsAnswer v wanted) wanted.end
