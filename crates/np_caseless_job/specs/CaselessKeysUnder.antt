-- How `key --check-under` ends.
use Rattle.std.specs.Prelude.{◌≡◌, ◌⊎◌, ℕ, Bool, true, List, chars}
use Rattle.np_code_points.specs.declared.forms.Form.{Form}
use Rattle.np_forms.specs.Assigned.{IsAssigned}
use Rattle.np_caseless.specs.Breaks.{IsFirstBreak}
use Rattle.np_caseless.specs.Caseless.{IsCaseless}
use Rattle.np_caseless.specs.Extension.{ExtendsFolded}
use Rattle.np_caseless.specs.Folded.{FoldedVersion}
use Rattle.np_caseless.specs.declared.breaks.FoldedBreak.{FoldedBreak}
use Rattle.np_jobs.specs.Ends.{JobEndsBy}
use Rattle.np_jobs.specs.KeysUnder.{SaysOwn}
use Rattle.np_jobs.specs.Streams.{Stream, IsUntouched}
use Rattle.np_jobs.specs.Texts.{IsMadeOfText, IsTextFault}
use Rattle.np_jobs.specs.Wraps.{Wraps}
use Rattle.np_caseless_job.specs.CaselessKeys.{LacksCaselessOutput}
use Rattle.np_caseless_job.specs.Pairs.{LacksOne, PairReaders, WereFolded}
use Rattle.np_caseless_job.specs.Tellings.{caseless_telling}
use Rattle.np_caseless_job.specs.declared.faults.CaselessFault.{CaselessFault}
use Rattle.np_caseless_job.specs.declared.faults.CaselessFault.TheVariants.{Folded, NotExtension, Text}

-- the readers of the job: the files of the old version and of the new one, and the input
pub record FoldedUnderReaders : Type 0 where
  pub pair : PairReaders
  pub input : Stream

-- the caseless key of a text under the new version is its own caseless key under the old one, and that is said
pub record IsCaselessUnder (form : Form) (old new : FoldedVersion) (text : List ℕ) (is_yes : Bool) (bytes : List ℕ) : Type 0 where
  pub assigned : IsAssigned new.version (chars text)
  pub key : List ℕ
  pub is : IsCaseless new form (chars text) key
  pub own : IsCaseless old form key key
  pub says : SaysOwn old.version key bytes
  pub done : is_yes ≡ true

-- both versions were built, the new one extends the old one, and the input was answered
pub record MakesCaselessUnder (form : Form) (readers : FoldedUnderReaders) (is_yes : Bool) (bytes : List ℕ) : Type 0 where
  pub old : FoldedVersion
  pub new : FoldedVersion
  pub folded : WereFolded readers.pair old new
  pub extends : ExtendsFolded old new
  pub made : IsMadeOfText (IsCaselessUnder form old new) readers.input is_yes bytes

-- the new version doesn't extend the old one, and the input was not looked at; or it does, and the input is refused
abbrev pub RefusesInput : FoldedVersion → FoldedVersion → Stream → CaselessFault → Type 0
RefusesInput old new input fault =
    ((brk : FoldedBreak) × (fault ≡ NotExtension brk) × IsFirstBreak old new brk × IsUntouched input)
    ⊎ (ExtendsFolded old new × Wraps Text (IsTextFault (LacksCaselessOutput new) input) fault)

-- a version was refused, and the input not looked at; or both were built, and the pair or the input is refused
abbrev pub RefusesCaselessUnder : FoldedUnderReaders → CaselessFault → Type 0
RefusesCaselessUnder readers fault =
    (Wraps Folded (LacksOne readers.pair) fault × IsUntouched readers.input)
    ⊎ ((old : FoldedVersion) × (new : FoldedVersion) × WereFolded readers.pair old new × RefusesInput old new readers.input fault)

-- `key --check-under`: what an earlier version has of the caseless key of the input
abbrev pub CaselessUnderEnds : Form → FoldedUnderReaders → Stream → Stream → ℕ → Type 0
CaselessUnderEnds form readers output error status =
    JobEndsBy caseless_telling (MakesCaselessUnder form readers) (RefusesCaselessUnder readers) output error status
