-- How `compare` ends.
use Rattle.std.specs.Prelude.{◌≡◌, ℕ, ◌↔◌, Bool, List, IsTrue, chars}
use Rattle.np_code_points.specs.Forms.{is_compat}
use Rattle.np_code_points.specs.declared.forms.Form.{Form}
use Rattle.np_forms.specs.Assigned.{IsAssigned}
use Rattle.np_caseless.specs.Caseless.{MatchCaselessly}
use Rattle.np_caseless.specs.Folded.{FoldedVersion}
use Rattle.np_jobs.specs.Comparisons.{AreTwoLines, LacksCompareOutput, answer_text}
use Rattle.np_jobs.specs.Streams.{Stream}
use Rattle.np_jobs.specs.declared.faults.TextFault.{TextFault}
use Rattle.np_caseless_job.specs.FoldedTexts.{FoldedTextEnds, FoldedTextReaders}

-- whether two strings match caselessly, canonically, or compatibly for NFKD and NFKC, of which each is assigned
pub record IsCaselessComparison (form : Form) (v : FoldedVersion) (first second : List ℕ) (is_yes : Bool) : Type 0 where
  pub first_assigned : IsAssigned v.version (chars first)
  pub second_assigned : IsAssigned v.version (chars second)
  pub answer : IsTrue is_yes ↔ MatchCaselessly v (is_compat form) (chars first) (chars second)

-- the comparison of the two lines of a text
pub record IsCaselessCompareOutput (form : Form) (v : FoldedVersion) (text : List ℕ) (is_yes : Bool) (bytes : List ℕ) : Type 0 where
  pub first : List ℕ
  pub second : List ℕ
  pub lines : AreTwoLines text first second
  pub is : IsCaselessComparison form v first second is_yes
  pub bytes_are : bytes ≡ answer_text is_yes

-- the text has no LF, or its two lines can't be compared
abbrev pub LacksCaselessCompareOutput : FoldedVersion → List ℕ → TextFault → Type 0
LacksCaselessCompareOutput v text fault = LacksCompareOutput v.version text fault

-- `compare`: whether the two lines of the input match caselessly
abbrev pub CaselessCompareEnds : Form → FoldedTextReaders → Stream → Stream → ℕ → Type 0
CaselessCompareEnds form readers output error status =
    FoldedTextEnds (IsCaselessCompareOutput form) LacksCaselessCompareOutput readers output error status
