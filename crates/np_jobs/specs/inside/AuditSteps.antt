-- The second half of `audit`, where the old version is there.
use Rattle.std.specs.Prelude.{◌≡◌, ◌⊎◌, string_bytes}
use Rattle.np_versions.specs.Versions.{VersionData}
use Rattle.np_jobs.specs.Audits.{IsAudit}
use Rattle.np_jobs.specs.Streams.{Stream}
use Rattle.np_jobs.specs.Versions.{WasBuilt, IsVersionFault}
use Rattle.np_jobs.specs.Wraps.{Wraps}
use Rattle.np_jobs.specs.declared.ending.JobOutput.{JobOutput}
use Rattle.np_jobs.specs.declared.faults.JobFault.{JobFault}
use Rattle.np_jobs.specs.declared.faults.JobFault.TheVariants.{Version, Memory}

pub record MakesAgainst (old : VersionData) (data_file exclusions_file : Stream) (made : JobOutput) : Type 0 where
  pub new : VersionData
  pub built : WasBuilt data_file exclusions_file new
  pub is : IsAudit old new made.is_yes (string_bytes made.text)

abbrev pub LacksAgainst : Stream → Stream → JobFault → Type 0
LacksAgainst data_file exclusions_file fault =
    Wraps Version (IsVersionFault 1 data_file exclusions_file) fault
    ⊎ ((fault ≡ Memory) × ((new : VersionData) × WasBuilt data_file exclusions_file new))
