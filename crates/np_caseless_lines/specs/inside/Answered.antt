-- Lines at the front of a text that were answered.
use Rattle.std.specs.Prelude.{ℕ, List}
use Rattle.np_caseless.specs.Caseless.{IsCaseless}
use Rattle.np_caseless.specs.Folded.{FoldedVersion}
use Rattle.np_code_points.specs.declared.forms.Form.{Form}
use Rattle.np_lines.specs.Answers.{IsAnswerBy}
use Rattle.np_lines.specs.Pushed.{ArePushed}
use Rattle.np_lines.specs.declared.lines.LineEnd.{LineEnd}

-- some lines at the front of a text were answered by their caseless keys: what is left of it, what stood there before the answers, and with them
abbrev pub AreAnswered : FoldedVersion → Form → LineEnd → List ℕ → List ℕ → List ℕ → List ℕ → Type 0
AreAnswered v form end = ArePushed (IsAnswerBy (IsCaseless v form) v.version end) end
