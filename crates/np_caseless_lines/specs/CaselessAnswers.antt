-- The answer to a line whose key is caseless.
use Rattle.std.specs.Prelude.{ℕ, Bool, List, Result}
use Rattle.np_caseless.specs.Caseless.{IsCaseless}
use Rattle.np_caseless.specs.Folded.{FoldedVersion}
use Rattle.np_forms.specs.RunEnds.{Ends}
use Rattle.np_lines.specs.Answers.{IsAnswerBy}
use Rattle.np_lines.specs.declared.lines.Wanted.{Wanted}
use Rattle.np_lines.specs.Runs.{RunEndsBy}
use Rattle.np_lines.specs.Whole.{IsAllAnsweredBy}
use Rattle.np_lines.specs.declared.runs.LinesFault.{LinesFault}

-- the answer to a line: why it has no key, or its caseless key (The Unicode Standard, D145 and D146)
abbrev pub IsCaselessAnswer : FoldedVersion → Wanted → List ℕ → List ℕ → Type 0
IsCaselessAnswer v wanted = IsAnswerBy (IsCaseless v wanted.form) v.version wanted.end

-- each end of a run whose answers have caseless keys
abbrev pub CaselessRunEnds : FoldedVersion → Wanted → Ends → Result Bool LinesFault → Type 0
CaselessRunEnds v wanted = RunEndsBy (IsCaselessAnswer v wanted) wanted.end

-- all lines of some bytes were answered by their caseless keys
abbrev pub IsAllAnsweredCaselessly : FoldedVersion → Wanted → List ℕ → List ℕ → Bool → Type 0
IsAllAnsweredCaselessly v wanted = IsAllAnsweredBy (IsCaselessAnswer v wanted) wanted.end
