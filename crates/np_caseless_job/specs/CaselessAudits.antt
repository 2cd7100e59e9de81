-- How `audit` ends.
use Rattle.std.specs.Prelude.{◌≡◌, ◌⊎◌, ℕ, Bool, ◌==◌, List, [], ◌∷◌, length, flat_map, codes}
use Rattle.np_caseless.specs.Breaks.{AreBreaks}
use Rattle.np_caseless.specs.Folded.{FoldedVersion}
use Rattle.np_caseless.specs.declared.breaks.FoldedBreak.{FoldedBreak}
use Rattle.np_jobs.specs.Ends.{JobEndsBy}
use Rattle.np_jobs.specs.Streams.{Stream}
use Rattle.np_jobs.specs.Wraps.{Wraps}
use Rattle.np_caseless_job.specs.Pairs.{LacksOne, PairReaders, WereFolded}
use Rattle.np_caseless_job.specs.Tellings.{caseless_telling, folded_break_line}
use Rattle.np_caseless_job.specs.declared.faults.CaselessFault.{CaselessFault}
use Rattle.np_caseless_job.specs.declared.faults.CaselessFault.TheVariants.{Folded, Memory}

-- a line for each break, or one that says that there is none
abbrev pub folded_audit_text : List FoldedBreak → List ℕ
folded_audit_text [] = codes "extends\n"
folded_audit_text (b ∷ bs) = flat_map folded_break_line (b ∷ bs)

-- all breaks of two versions with their foldings, each code point's least kind, in order
pub record IsFoldedAudit (old new : FoldedVersion) (is_yes : Bool) (bytes : List ℕ) : Type 0 where
  pub breaks : List FoldedBreak
  pub are : AreBreaks old new breaks
  pub answer : is_yes ≡ (length breaks == 0)
  pub bytes_are : bytes ≡ folded_audit_text breaks

-- what the new version breaks of the old one
pub record MakesFoldedAudit (readers : PairReaders) (is_yes : Bool) (bytes : List ℕ) : Type 0 where
  pub old : FoldedVersion
  pub new : FoldedVersion
  pub folded : WereFolded readers old new
  pub is : IsFoldedAudit old new is_yes bytes

-- a version was refused; or both were built, and memory ran out
abbrev pub RefusesFoldedAudit : PairReaders → CaselessFault → Type 0
RefusesFoldedAudit readers fault =
    Wraps Folded (LacksOne readers) fault
    ⊎ ((fault ≡ Memory) × ((old : FoldedVersion) × (new : FoldedVersion) × WereFolded readers old new))

-- `audit`: what the new version breaks of the old one
abbrev pub FoldedAuditEnds : PairReaders → Stream → Stream → ℕ → Type 0
FoldedAuditEnds readers output error status = JobEndsBy caseless_telling (MakesFoldedAudit readers) (RefusesFoldedAudit readers) output error status
