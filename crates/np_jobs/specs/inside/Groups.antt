-- A fault of a part of a job as one of the job.
use Rattle.np_jobs.specs.declared.faults.JobFault.{JobFault}
use Rattle.np_jobs.specs.declared.faults.JobFault.TheVariants.{Version, Text, Replay}
use Rattle.np_jobs.specs.declared.faults.ReplayFault.{ReplayFault}
use Rattle.np_jobs.specs.declared.faults.VersionFault.{VersionFault}
use Rattle.np_jobs.specs.declared.faults.TextFault.{TextFault}

abbrev pub of_version : VersionFault → JobFault
of_version fault = Version fault

abbrev pub of_text : TextFault → JobFault
of_text fault = Text fault

abbrev pub of_replay : ReplayFault → JobFault
of_replay fault = Replay fault
