-- The laws of lines and their answers, over the definitions alone.
use Rattle.std.specs.Prelude.{◌≡◌, ℕ, List}
use Rattle.np_code_points.specs.One.{HasOne}
use Rattle.np_versions.specs.Conditions.{IsSound}
use Rattle.np_versions.specs.Versions.{VersionData}
use Rattle.np_lines.specs.Answers.{Wanted, AreAnswers, IsAnswer}
use Rattle.np_lines.specs.Lines.{LineEnd, AreLines, IsCut, ended}

-- bytes have one list of lines, and one of whole lines with one rest
abbrev pub OneListOfLines : Type 0
OneListOfLines = (end : LineEnd) (bytes : List ℕ) → HasOne (AreLines end bytes)

abbrev pub OneCut : Type 0
OneCut =
    (end : LineEnd) (bytes rest other_rest : List ℕ) (whole other : List (List ℕ)) → IsCut end bytes whole rest → IsCut end bytes other other_rest →
    (other ≡ whole) × (other_rest ≡ rest)

-- under each version that meets the conditions, a line has one answer
abbrev pub OneAnswer : Type 0
OneAnswer = (v : VersionData) (wanted : Wanted) (line : List ℕ) → IsSound v → HasOne (IsAnswer v wanted line)

-- no answer has the byte that ends lines: the lines of what is written are the answers, one for each line
abbrev pub AnswersAreLines : Type 0
AnswersAreLines =
    (v : VersionData) (wanted : Wanted) (lines answers : List (List ℕ)) → AreAnswers v wanted lines answers →
    AreLines wanted.end (ended wanted.end answers) answers
