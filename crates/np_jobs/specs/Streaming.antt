-- How a job ends that writes while it reads.
use Rattle.std.specs.Prelude.{◌⊎◌, ℕ}
use Rattle.np_versions.specs.Versions.{VersionData}
use Rattle.np_jobs.specs.Ends.{TellsRefusal}
use Rattle.np_jobs.specs.Streams.{Stream, IsUntouched}
use Rattle.np_jobs.specs.Texts.{TextReaders, LacksVersion}
use Rattle.np_jobs.specs.Versions.{WasBuilt}
use Rattle.np_jobs.specs.declared.faults.JobFault.{JobFault}

-- the version was built, and under it the input was read and the output written so
pub record WasStreamed (Runs : VersionData → Stream → Stream → Type 0) (readers : TextReaders) (output : Stream) : Type 0 where
  pub v : VersionData
  pub built : WasBuilt readers.data_file readers.exclusions_file v
  pub runs : Runs v readers.input output

-- it ended early; or the version was refused, and nothing was read of the input or written
abbrev pub IsStopped : (JobFault → VersionData → Stream → Stream → Type 0) → TextReaders → Stream → JobFault → Type 0
IsStopped Stops readers output fault = WasStreamed (Stops fault) readers output ⊎ (LacksVersion readers fault × IsUntouched output)

-- the input was read to its end, with this status, and nothing is told; or the job stopped, and why is told
abbrev pub StreamingEnds : (ℕ → VersionData → Stream → Stream → Type 0) → (JobFault → VersionData → Stream → Stream → Type 0)
    → TextReaders → Stream → Stream → ℕ → Type 0
StreamingEnds Runs Stops readers output error status =
    (WasStreamed (Runs status) readers output × IsUntouched error)
    ⊎ ((fault : JobFault) × IsStopped Stops readers output fault × TellsRefusal fault error status)
