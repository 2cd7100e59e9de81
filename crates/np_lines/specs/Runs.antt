-- How a run over the lines of an input ends, by what the reader had before and has after, and what the writer holds before and after.
use Rattle.std.specs.Prelude.{◌≡◌, ◌<◌, ◌⊎◌, ℕ, Bool, List, ◌++◌, length, Result, Ok, Err}
use Rattle.std.specs.Io.KnownBytes.{Appends, Consumes, IsAtEnd}
use Rattle.std.specs.List.{AllZip, list_any}
use Rattle.np_forms.specs.RunEnds.{Ends}
use Rattle.np_versions.specs.Versions.{VersionData}
use Rattle.np_lines.specs.Answers.{Wanted, IsAnswer, is_refusal}
use Rattle.np_lines.specs.Lines.{IsCut, LineEnd, AreLines, ended}
use Rattle.np_lines.specs.declared.runs.LinesFault.{LinesFault}
use Rattle.np_lines.specs.declared.runs.LinesFault.TheVariants.{ReadFailed, WriteFailed, TooLarge, Memory}

-- the input was read to its end, and the answers to all its lines were written, each with the byte that ends it; and whether one is a refusal
pub record IsRunWhole (Is : List ℕ → List ℕ → Type 0) (by : LineEnd) (ends : Ends) (any_refused : Bool) : Type 0 where
  pub bytes : List ℕ
  pub taken : Consumes ends.in_before ends.in_after bytes
  pub end : IsAtEnd ends.in_after
  pub lines : List (List ℕ)
  pub lines_are : AreLines by bytes lines
  pub answers : List (List ℕ)
  pub answers_are : AllZip Is lines answers
  pub written : Appends ends.out_before ends.out_after (ended by answers)
  pub told : any_refused ≡ list_any is_refusal answers

-- the lines of what was read that can be answered: the whole ones, and at the end of the input the last one too
abbrev pub AreDue : Ends → LineEnd → List ℕ → List (List ℕ) → Type 0
AreDue ends end bytes lines = ((rest : List ℕ) × IsCut end bytes lines rest) ⊎ (IsAtEnd ends.in_after × AreLines end bytes lines)

-- exactly the answers to the whole lines
pub record IsWholeLines (Is : List ℕ → List ℕ → Type 0) (end : LineEnd) (bytes out : List ℕ) : Type 0 where
  pub lines : List (List ℕ)
  pub rest : List ℕ
  pub cut : IsCut end bytes lines rest
  pub answers : List (List ℕ)
  pub answers_are : AllZip Is lines answers
  pub out_is : out ≡ ended end answers

-- some first bytes of the answers to the lines
pub record IsFront (Is : List ℕ → List ℕ → Type 0) (end : LineEnd) (ends : Ends) (bytes out : List ℕ) : Type 0 where
  pub lines : List (List ℕ)
  pub due : AreDue ends end bytes lines
  pub answers : List (List ℕ)
  pub answers_are : AllZip Is lines answers
  pub more : List ℕ
  pub split : ended end answers ≡ out ++ more

-- exactly the answers to some first lines
pub record IsFirstLines (Is : List ℕ → List ℕ → Type 0) (end : LineEnd) (ends : Ends) (bytes out : List ℕ) : Type 0 where
  pub lines : List (List ℕ)
  pub behind : List (List ℕ)
  pub due : AreDue ends end bytes (lines ++ behind)
  pub answers : List (List ℕ)
  pub answers_are : AllZip Is lines answers
  pub out_is : out ≡ ended end answers

-- what was written for each fault; and of an input that is too large, how much was read
abbrev pub IsWrittenOf : (List ℕ → List ℕ → Type 0) → LineEnd → Ends → List ℕ → List ℕ → LinesFault → Type 0
IsWrittenOf Is end ends bytes out ReadFailed = IsWholeLines Is end bytes out
IsWrittenOf Is end ends bytes out WriteFailed = IsFront Is end ends bytes out
IsWrittenOf Is end ends bytes out TooLarge = (18446744073709551615 < length bytes) × IsFirstLines Is end ends bytes out
IsWrittenOf Is end ends bytes out Memory = IsFirstLines Is end ends bytes out

-- the run ended early: what was read, and what was written of the answers to its lines
pub record IsRunCut (Is : List ℕ → List ℕ → Type 0) (end : LineEnd) (ends : Ends) (fault : LinesFault) : Type 0 where
  pub bytes : List ℕ
  pub taken : Consumes ends.in_before ends.in_after bytes
  pub out : List ℕ
  pub written : Appends ends.out_before ends.out_after out
  pub front : IsWrittenOf Is end ends bytes out fault

-- each end of a run, by what the answer to a line is
abbrev pub RunEndsBy : (List ℕ → List ℕ → Type 0) → LineEnd → Ends → Result Bool LinesFault → Type 0
RunEndsBy Is end ends (Ok any_refused) = IsRunWhole Is end ends any_refused
RunEndsBy Is end ends (Err fault) = IsRunCut Is end ends fault

-- each end of a run whose answers have stabilized strings
abbrev pub RunEnds : VersionData → Wanted → Ends → Result Bool LinesFault → Type 0
RunEnds v wanted = RunEndsBy (IsAnswer v wanted) wanted.end
