-- How `audit` ends.
use Rattle.std.specs.Prelude.{◌≡◌, ◌⊎◌, ℕ, Bool, ◌==◌, List, [], ◌∷◌, length, flat_map, codes}
use Rattle.np_chain.specs.Breaks.{AreBreaks}
use Rattle.np_chain.specs.declared.breaks.Break.{Break}
use Rattle.np_versions.specs.Versions.{VersionData}
use Rattle.np_jobs.specs.Chains.{LacksOne, VersionReaders, WereBuilt}
use Rattle.np_jobs.specs.Ends.{JobEnds}
use Rattle.np_jobs.specs.Streams.{Stream}
use Rattle.np_jobs.specs.Tellings.{break_line}
use Rattle.np_jobs.specs.Wraps.{Wraps}
use Rattle.np_jobs.specs.declared.faults.JobFault.{JobFault}
use Rattle.np_jobs.specs.declared.faults.JobFault.TheVariants.{Version, Memory}

-- a line for each break, or one that says that there is none
abbrev pub audit_text : List Break → List ℕ
audit_text [] = codes "extends\n"
audit_text (b ∷ bs) = flat_map break_line (b ∷ bs)

-- all breaks of two versions, each code point's least kind, in order
pub record IsAudit (old new : VersionData) (is_yes : Bool) (bytes : List ℕ) : Type 0 where
  pub breaks : List Break
  pub are : AreBreaks old new breaks
  pub answer : is_yes ≡ (length breaks == 0)
  pub bytes_are : bytes ≡ audit_text breaks

-- what the new version breaks of the old one; the readers are those of the old one and of the new one
pub record MakesAudit (readers : List VersionReaders) (is_yes : Bool) (bytes : List ℕ) : Type 0 where
  pub old : VersionData
  pub new : VersionData
  pub built : WereBuilt readers (old ∷ new ∷ [])
  pub is : IsAudit old new is_yes bytes

-- a version was refused; or all were built, and memory ran out
abbrev pub RefusesAudit : List VersionReaders → JobFault → Type 0
RefusesAudit readers fault = Wraps Version (LacksOne readers) fault ⊎ ((fault ≡ Memory) × ((versions : List VersionData) × WereBuilt readers versions))

-- `audit`: what the new version breaks of the old one
abbrev pub AuditEnds : List VersionReaders → Stream → Stream → ℕ → Type 0
AuditEnds readers output error status = JobEnds (MakesAudit readers) (RefusesAudit readers) output error status
