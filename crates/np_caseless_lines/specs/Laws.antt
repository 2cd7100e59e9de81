-- The laws of lines and their caseless answers, over the definitions alone.
use Rattle.std.specs.Prelude.{ℕ, List}
use Rattle.std.specs.List.{AllZip}
use Rattle.np_caseless.specs.Folded.{FoldedVersion}
use Rattle.np_code_points.specs.One.{HasOne}
use Rattle.np_versions.specs.Conditions.{IsSound}
use Rattle.np_lines.specs.declared.lines.Wanted.{Wanted}
use Rattle.np_lines.specs.Lines.{AreLines, ended}
use Rattle.np_caseless_lines.specs.CaselessAnswers.{IsCaselessAnswer}

-- under each version that meets the conditions, a line has one answer
abbrev pub OneCaselessAnswer : Type 0
OneCaselessAnswer = (v : FoldedVersion) (wanted : Wanted) (line : List ℕ) → IsSound v.version → HasOne (IsCaselessAnswer v wanted line)

-- no answer has the byte that ends lines: the lines of what is written are the answers, one for each line
abbrev pub CaselessAnswersAreLines : Type 0
CaselessAnswersAreLines =
    (v : FoldedVersion) (wanted : Wanted) (lines answers : List (List ℕ)) → AllZip (IsCaselessAnswer v wanted) lines answers →
    AreLines wanted.end (ended wanted.end answers) answers
