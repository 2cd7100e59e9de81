-- How `normalize` ends.
use Rattle.std.specs.Prelude.{◌≡◌, ◌↔◌, ℕ, true, Result, Ok, Err}
use Rattle.np_code_points.specs.declared.forms.Form.{Form}
use Rattle.np_code_points.specs.declared.channels.input.InputFault.TheVariants as Inputs
use Rattle.np_forms.specs.RunEnds.{Ends as RunDevices, RunEnds}
use Rattle.np_forms.specs.declared.runs.RunFault.{RunFault}
use Rattle.np_forms.specs.declared.runs.RunFault.TheVariants as Runs
use Rattle.np_versions.specs.Versions.{VersionData}
use Rattle.np_jobs.specs.Streaming.{StreamingEnds}
use Rattle.np_jobs.specs.Streams.{Stream}
use Rattle.np_jobs.specs.Texts.{TextReaders}
use Rattle.np_jobs.specs.Wraps.{Wraps}
use Rattle.np_jobs.specs.declared.faults.JobFault.{JobFault}
use Rattle.np_jobs.specs.declared.faults.JobFault.TheVariants.{Text, WriteFailed}
use Rattle.np_jobs.specs.declared.faults.TextFault.TheVariants as Texts

-- what a run's devices hold, before and after
abbrev pub run_devices : Stream → Stream → RunDevices
run_devices input output = record { in_before = input.before; in_after = input.after; out_before = output.before; out_after = output.after }

-- how a fault of the run is told
abbrev pub told_as : RunFault → JobFault
told_as (Runs.NotUtf8 at) = Text (Texts.NotUtf8 at)
told_as Runs.ReadFailed = Text (Texts.Input Inputs.ReadFailed)
told_as Runs.WriteFailed = WriteFailed
told_as Runs.TooLarge = Text (Texts.Input Inputs.TooLarge)
told_as Runs.Memory = Text Texts.Memory

-- the run over the input answered this; the input failed exactly where that is the answer, and so did the output
pub record WasRun (form : Form) (answer : Result ℕ RunFault) (v : VersionData) (input output : Stream) : Type 0 where
  pub ends : RunEnds v form (run_devices input output) answer
  pub read : (answer ≡ Err Runs.ReadFailed) ↔ (input.failed ≡ true)
  pub written : (answer ≡ Err Runs.WriteFailed) ↔ (output.failed ≡ true)

-- the whole form was written, of so many bytes
abbrev pub IsNormalized : Form → ℕ → VersionData → Stream → Stream → Type 0
IsNormalized form status v input output = ((count : ℕ) × WasRun form (Ok count) v input output) × (status ≡ 0)

-- the run ended early
abbrev pub IsNotNormalized : Form → JobFault → VersionData → Stream → Stream → Type 0
IsNotNormalized form fault v input output = Wraps told_as (λ stopped. WasRun form (Err stopped) v input output) fault

-- `normalize`: the normal form of the input, written as it is read, and nothing is told; or the job stopped, and why is told
abbrev pub NormalizeEnds : Form → TextReaders → Stream → Stream → ℕ → Type 0
NormalizeEnds form readers output error status = StreamingEnds (IsNormalized form) (IsNotNormalized form) readers output error status
