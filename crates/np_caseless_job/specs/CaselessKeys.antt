-- How `key` ends.
use Rattle.std.specs.Prelude.{◌≡◌, ℕ, Bool, true, List, chars, encode_utf8_all}
use Rattle.np_code_points.specs.declared.forms.Form.{Form}
use Rattle.np_forms.specs.Assigned.{IsAssigned}
use Rattle.np_caseless.specs.Caseless.{IsCaseless}
use Rattle.np_caseless.specs.Folded.{FoldedVersion}
use Rattle.np_jobs.specs.Keys.{LacksKeyOutput}
use Rattle.np_jobs.specs.Streams.{Stream}
use Rattle.np_jobs.specs.declared.faults.TextFault.{TextFault}
use Rattle.np_caseless_job.specs.FoldedTexts.{FoldedTextEnds, FoldedTextReaders}

-- the caseless key of a text: the one caseless list of an assigned text
pub record IsCaselessOutput (form : Form) (v : FoldedVersion) (text : List ℕ) (is_yes : Bool) (bytes : List ℕ) : Type 0 where
  pub assigned : IsAssigned v.version (chars text)
  pub list : List ℕ
  pub is : IsCaseless v form (chars text) list
  pub bytes_are : bytes ≡ encode_utf8_all list
  pub done : is_yes ≡ true

-- the first unassigned code point of the text; or memory ran out, where each is assigned
abbrev pub LacksCaselessOutput : FoldedVersion → List ℕ → TextFault → Type 0
LacksCaselessOutput v text fault = LacksKeyOutput v.version text fault

-- `key`: the caseless key of the input, or why there is none
abbrev pub CaselessKeyEnds : Form → FoldedTextReaders → Stream → Stream → ℕ → Type 0
CaselessKeyEnds form readers output error status = FoldedTextEnds (IsCaselessOutput form) LacksCaselessOutput readers output error status
