-- How `npss_lines --caseless` ends.
use Rattle.std.specs.Prelude.{◌≡◌, ◌↔◌, ◌⊎◌, ℕ, Bool, true, Result, Ok, Err}
use Rattle.np_caseless.specs.Folded.{FoldedVersion}
use Rattle.np_caseless_job.specs.FoldedTexts.{FoldedTextReaders}
use Rattle.np_caseless_job.specs.FoldedVersions.{IsFoldedFault, WasFolded}
use Rattle.np_caseless_job.specs.Tellings.{caseless_telling}
use Rattle.np_caseless_job.specs.declared.faults.CaselessFault.TheVariants as Faults
use Rattle.np_caseless_job.specs.declared.faults.FoldedFault.{FoldedFault}
use Rattle.np_caseless_lines.specs.CaselessAnswers.{CaselessRunEnds}
use Rattle.np_code_points.specs.declared.channels.input.InputFault.TheVariants as Inputs
use Rattle.np_jobs.specs.Ends.{TellsAs}
use Rattle.np_jobs.specs.NormalForms.{run_devices}
use Rattle.np_jobs.specs.Streams.{Stream, IsUntouched}
use Rattle.np_jobs.specs.Tellings.{Telling, telling_of}
use Rattle.np_jobs.specs.Wraps.{Wraps}
use Rattle.np_jobs.specs.declared.faults.JobFault.TheVariants as Jobs
use Rattle.np_jobs.specs.declared.faults.TextFault.TheVariants as Texts
use Rattle.np_lines.specs.declared.lines.Wanted.{Wanted}
use Rattle.np_lines.specs.declared.runs.LinesFault.{LinesFault}
use Rattle.np_lines.specs.declared.runs.LinesFault.TheVariants as Lines
use Rattle.np_lines_job.specs.LineKeys.{lines_status}
use Rattle.np_lines_job.specs.declared.job.LinesRun.{LinesRun}
use Rattle.np_lines_job.specs.declared.stops.CaselessLinesFault.{CaselessLinesFault}
use Rattle.np_lines_job.specs.declared.stops.CaselessLinesFault.TheVariants.{Caseless, WriteFailed}

-- how a fault of the run is told
abbrev pub told_caselessly_as : LinesFault → CaselessLinesFault
told_caselessly_as Lines.ReadFailed = Caseless (Faults.Text (Texts.Input Inputs.ReadFailed))
told_caselessly_as Lines.WriteFailed = WriteFailed
told_caselessly_as Lines.TooLarge = Caseless (Faults.Text (Texts.Input Inputs.TooLarge))
told_caselessly_as Lines.Memory = Caseless (Faults.Text Texts.Memory)

-- how a fault of the three files is told
abbrev pub of_three : FoldedFault → CaselessLinesFault
of_three fault = Caseless (Faults.Folded fault)

abbrev pub caseless_lines_telling : CaselessLinesFault → Telling
caseless_lines_telling (Caseless fault) = caseless_telling fault
caseless_lines_telling WriteFailed = telling_of Jobs.WriteFailed

-- the run over the lines of the input answered this, by their caseless keys; the input failed exactly where that is the answer, and so did the output
pub record WasAnsweredCaselessly (wanted : Wanted) (answer : Result Bool LinesFault) (v : FoldedVersion) (input output : Stream) : Type 0 where
  pub ends : CaselessRunEnds v wanted (run_devices input output) answer
  pub read : (answer ≡ Err Lines.ReadFailed) ↔ (input.failed ≡ true)
  pub written : (answer ≡ Err Lines.WriteFailed) ↔ (output.failed ≡ true)

-- each line has its answer
abbrev pub AreAnsweredCaselessly : LinesRun → ℕ → FoldedVersion → Stream → Stream → Type 0
AreAnsweredCaselessly asked status v input output =
    (any_refused : Bool) × WasAnsweredCaselessly asked.wanted (Ok any_refused) v input output × (status ≡ lines_status asked.is_strict any_refused)

-- the run ended early
abbrev pub AreNotAnsweredCaselessly : LinesRun → CaselessLinesFault → FoldedVersion → Stream → Stream → Type 0
AreNotAnsweredCaselessly asked fault v input output =
    Wraps told_caselessly_as (λ stopped. WasAnsweredCaselessly asked.wanted (Err stopped) v input output) fault

-- the version was built with its foldings, and under it the input was read and the output written so
pub record WasStreamedFolded (Runs : FoldedVersion → Stream → Stream → Type 0) (readers : FoldedTextReaders) (output : Stream) : Type 0 where
  pub v : FoldedVersion
  pub folded : WasFolded readers.files v
  pub runs : Runs v readers.input output

-- it ended early; or the version was refused, and nothing was read of the input or written
abbrev pub IsCaselessStop : LinesRun → FoldedTextReaders → Stream → CaselessLinesFault → Type 0
IsCaselessStop asked readers output fault =
    WasStreamedFolded (AreNotAnsweredCaselessly asked fault) readers output
    ⊎ (Wraps of_three (IsFoldedFault 0 readers.files) fault × IsUntouched readers.input × IsUntouched output)

-- each line of the input has its answer, and nothing is told; or the run stopped, and why is told
abbrev pub CaselessLinesEnd : LinesRun → FoldedTextReaders → Stream → Stream → ℕ → Type 0
CaselessLinesEnd asked readers output error status =
    (WasStreamedFolded (AreAnsweredCaselessly asked status) readers output × IsUntouched error)
    ⊎ ((fault : CaselessLinesFault) × IsCaselessStop asked readers output fault × TellsAs (caseless_lines_telling fault) error status)
