-- What the program does for its words, over any opener of files: by which contents a file of a name may have, and which names may not open.
use Rattle.std.specs.Prelude.{◌≡◌, ℕ, true, None, Some, List, Option}
use Rattle.np_jobs.specs.Ends.{WritesAnswer}
use Rattle.np_jobs.specs.Opening.{AreTextReaders}
use Rattle.np_jobs.specs.Programs.{IsProgramEnd}
use Rattle.np_jobs.specs.Streams.{Stream}
use Rattle.np_jobs.specs.Texts.{TextReaders}
use Rattle.np_caseless_job.specs.FoldedTexts.{AreFoldedTextReaders, FoldedTextReaders}
use Rattle.np_lines_job.specs.CaselessLineKeys.{CaselessLinesEnd}
use Rattle.np_lines_job.specs.LineKeys.{LinesEnd}
use Rattle.np_lines_job.specs.LineWords.{asked_by, asked_of, lines_usage, lines_version}
use Rattle.np_lines_job.specs.declared.words.LinesJob.{LinesJob}
use Rattle.np_lines_job.specs.declared.words.LinesJob.TheVariants.{Help, Version, Answer, AnswerCaselessly}

-- how a job ends, over the files that its names opened; notices leave the input as it is
abbrev pub EndsOverFiles : (List ℕ → Option (List ℕ) → Type 0) → LinesJob → Stream → Stream → Stream → ℕ → Type 0
EndsOverFiles Gives Help input output error status = WritesAnswer true lines_usage output error status × (input.after ≡ input.before)
EndsOverFiles Gives Version input output error status = WritesAnswer true lines_version output error status × (input.after ≡ input.before)
EndsOverFiles Gives (Answer asked shows_progress files) input output error status =
    (readers : TextReaders) × AreTextReaders Gives files input readers × LinesEnd asked readers output error status
EndsOverFiles Gives (AnswerCaselessly asked shows_progress files) input output error status =
    (readers : FoldedTextReaders) × AreFoldedTextReaders Gives files input readers × CaselessLinesEnd asked readers output error status

-- the job is run that the words ask for; or none is asked for, and nothing of the input is read and nothing written
abbrev pub ProgramEnds : (List ℕ → Option (List ℕ) → Type 0) → (List ℕ → Type 0) → List (List ℕ) → Stream → Stream → Stream → ℕ → Type 0
ProgramEnds =
    IsProgramEnd (λ words job. asked_by words ≡ Some (asked_of job)) (λ words. asked_by words ≡ None) (λ job. (asked_of job).files) lines_usage
    EndsOverFiles
