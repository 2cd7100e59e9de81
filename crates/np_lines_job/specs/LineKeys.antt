-- How `npss_lines` ends.
use Rattle.std.specs.Prelude.{◌≡◌, ◌↔◌, ◌&&◌, ℕ, Bool, true, Result, Ok, Err, if◌then◌else◌}
use Rattle.np_code_points.specs.declared.channels.input.InputFault.TheVariants as Inputs
use Rattle.np_lines.specs.declared.lines.Wanted.{Wanted}
use Rattle.np_lines.specs.Runs.{RunEnds}
use Rattle.np_lines.specs.declared.runs.LinesFault.{LinesFault}
use Rattle.np_lines.specs.declared.runs.LinesFault.TheVariants as Lines
use Rattle.np_versions.specs.Versions.{VersionData}
use Rattle.np_jobs.specs.NormalForms.{run_devices}
use Rattle.np_jobs.specs.Streaming.{StreamingEnds}
use Rattle.np_jobs.specs.Streams.{Stream}
use Rattle.np_jobs.specs.Texts.{TextReaders}
use Rattle.np_jobs.specs.Wraps.{Wraps}
use Rattle.np_jobs.specs.declared.faults.JobFault.{JobFault}
use Rattle.np_jobs.specs.declared.faults.JobFault.TheVariants.{Text, WriteFailed}
use Rattle.np_jobs.specs.declared.faults.TextFault.TheVariants as Texts
use Rattle.np_lines_job.specs.declared.job.LinesRun.{LinesRun}

-- how a fault of the run is told
abbrev pub told_as : LinesFault → JobFault
told_as Lines.ReadFailed = Text (Texts.Input Inputs.ReadFailed)
told_as Lines.WriteFailed = WriteFailed
told_as Lines.TooLarge = Text (Texts.Input Inputs.TooLarge)
told_as Lines.Memory = Text Texts.Memory

-- the run over the lines of the input answered this; the input failed exactly where that is the answer, and so did the output
pub record WasAnswered (wanted : Wanted) (answer : Result Bool LinesFault) (v : VersionData) (input output : Stream) : Type 0 where
  pub ends : RunEnds v wanted (run_devices input output) answer
  pub read : (answer ≡ Err Lines.ReadFailed) ↔ (input.failed ≡ true)
  pub written : (answer ≡ Err Lines.WriteFailed) ↔ (output.failed ≡ true)

-- 3 where a line was refused and the status is to tell that, else 0
abbrev pub lines_status : Bool → Bool → ℕ
lines_status is_strict any_refused = if is_strict && any_refused then 3 else 0

-- each line has its answer
abbrev pub AreAnswered : LinesRun → ℕ → VersionData → Stream → Stream → Type 0
AreAnswered asked status v input output =
    (any_refused : Bool) × WasAnswered asked.wanted (Ok any_refused) v input output × (status ≡ lines_status asked.is_strict any_refused)

-- the run ended early
abbrev pub AreNotAnswered : LinesRun → JobFault → VersionData → Stream → Stream → Type 0
AreNotAnswered asked fault v input output = Wraps told_as (λ stopped. WasAnswered asked.wanted (Err stopped) v input output) fault

-- each line of the input has its answer, and nothing is told; or the run stopped, and why is told
abbrev pub LinesEnd : LinesRun → TextReaders → Stream → Stream → ℕ → Type 0
LinesEnd asked readers output error status = StreamingEnds (AreAnswered asked) (AreNotAnswered asked) readers output error status
