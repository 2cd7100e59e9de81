-- What `replay` makes over versions that were built.
use Rattle.std.specs.Prelude.{◌≡◌, true, List, length, string_bytes}
use Rattle.np_chain.specs.Chain.{IsChain}
use Rattle.np_code_points.specs.declared.forms.Form.{Form}
use Rattle.np_versions.specs.Versions.{VersionData}
use Rattle.np_schedules.specs.Events.{ScheduleData}
use Rattle.np_jobs.specs.Streams.{Stream}
use Rattle.np_jobs.specs.declared.ending.JobOutput.{JobOutput}
use Rattle.np_program.specs.Replays.{IsReplay, WasScheduled}

pub record MakesOverChain (form : Form) (versions : List VersionData) (schedule_file : Stream) (made : JobOutput) : Type 0 where
  pub chain : IsChain versions
  pub schedule : ScheduleData
  pub scheduled : WasScheduled schedule_file (length versions) schedule
  pub is : IsReplay form versions schedule (string_bytes made.text)
  pub done : made.is_yes ≡ true
