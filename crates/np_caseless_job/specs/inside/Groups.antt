-- A fault of a part of a job as one of the job.
use Rattle.np_caseless_job.specs.declared.faults.CaselessFault.{CaselessFault}
use Rattle.np_caseless_job.specs.declared.faults.CaselessFault.TheVariants.{Folded, Text}
use Rattle.np_caseless_job.specs.declared.faults.FoldedFault.{FoldedFault}
use Rattle.np_caseless_job.specs.declared.faults.FoldedFault.TheVariants.{Version}
use Rattle.np_jobs.specs.declared.faults.TextFault.{TextFault}
use Rattle.np_jobs.specs.declared.faults.VersionFault.{VersionFault}

abbrev pub of_version : VersionFault → FoldedFault
of_version fault = Version fault

abbrev pub of_folded : FoldedFault → CaselessFault
of_folded fault = Folded fault

abbrev pub of_text : TextFault → CaselessFault
of_text fault = Text fault
