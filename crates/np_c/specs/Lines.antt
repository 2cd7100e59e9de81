-- The answers to lines, as C asks for them.
use Rattle.std.specs.Prelude.{◌≡◌, ◌⊎◌, ℕ, Bool, true, false, List}
use Rattle.np_caseless.specs.Folded.{FoldedVersion}
use Rattle.np_caseless_lines.specs.CaselessAnswers.{IsAllAnsweredCaselessly}
use Rattle.np_code_points.specs.Forms.{byte_of}
use Rattle.np_code_points.specs.declared.forms.Form.{Form}
use Rattle.np_lines.specs.declared.lines.LineEnd.{LineEnd}
use Rattle.np_lines.specs.declared.lines.Wanted.{Wanted}
use Rattle.np_lines.specs.Lines as line
use Rattle.np_lines.specs.Whole.{IsAllAnswered}
use Rattle.np_versions.specs.Versions.{VersionData}
use Rattle.np_c.specs.Answers.{IsPut, LacksForm}
use Rattle.np_c.specs.Statuses.{alone}
use Rattle.np_c.specs.declared.answers.Answer.{Answer}
use Rattle.np_c.specs.declared.lines.Asked.{Asked}

-- a byte ends lines: 10 or 0
abbrev pub IsLineByte : ℕ → Type 0
IsLineByte byte = (end : LineEnd) × (byte ≡ line.byte_of end)

-- the byte that is to end lines is none, and nothing changed
pub record LacksEnd (byte : ℕ) (before after : List ℕ) (a : Answer) : Type 0 where
  pub told : a ≡ alone 12
  pub none : ¬ (IsLineByte byte)
  pub room : after ≡ before

-- 1 where a line was refused
abbrev pub refused_number : Bool → ℕ
refused_number false = 0
refused_number true = 1

-- these answers are put into the room; where they have no room too it is told whether a line was refused
pub record AreAnswersPut (IsAll : List ℕ → Bool → Type 0) (before after : List ℕ) (a : Answer) : Type 0 where
  pub made : List ℕ
  pub any_refused : Bool
  pub all : IsAll made any_refused
  pub put : IsPut made before after a
  pub told : a ≡ record { status = a.status; fault = refused_number any_refused; code = 0; place = 0; length = a.length }

-- or memory ran out, and nothing changed
pub record LacksMemory (before after : List ℕ) (a : Answer) : Type 0 where
  pub told : a ≡ alone 4
  pub room : after ≡ before

-- the letter is that of a form, the byte ends lines, and the answers to all lines are put into the room
abbrev pub IsLinesAnswer : (Wanted → List ℕ → Bool → Type 0) → Asked → List ℕ → List ℕ → Answer → Type 0
IsLinesAnswer IsAll asked before after a =
    LacksForm asked.form before after a
    ⊎ ((form : Form) × (asked.form ≡ byte_of form) × (LacksEnd asked.end before after a
    ⊎ ((end : LineEnd) × (asked.end ≡ line.byte_of end) × (AreAnswersPut (IsAll (record { form = form; end = end })) before after a
    ⊎ LacksMemory before after a))))

-- `npss_answers`
abbrev pub IsAnswersAnswer : VersionData → Asked → List ℕ → List ℕ → List ℕ → Answer → Type 0
IsAnswersAnswer v asked bytes before after a = IsLinesAnswer (λ wanted. IsAllAnswered v wanted bytes) asked before after a

-- `npss_caseless_answers`: the same with caseless keys
abbrev pub IsCaselessAnswersAnswer : FoldedVersion → Asked → List ℕ → List ℕ → List ℕ → Answer → Type 0
IsCaselessAnswersAnswer v asked bytes before after a = IsLinesAnswer (λ wanted. IsAllAnsweredCaselessly v wanted bytes) asked before after a
