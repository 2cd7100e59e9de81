-- What `npss_caseless` does for its words, over any opener of files: by which contents a file of a name may have, and which names may not open.
use Rattle.std.specs.Prelude.{◌≡◌, ℕ, true, None, Some, List, Option}
use Rattle.np_jobs.specs.Ends.{WritesAnswer}
use Rattle.np_jobs.specs.Programs.{IsProgramEnd}
use Rattle.np_jobs.specs.Streams.{Stream}
use Rattle.np_words.specs.declared.caseless.CaselessJob.{CaselessJob}
use Rattle.np_words.specs.declared.caseless.CaselessJob.TheVariants.{Help, Key, KeyUnder, Compare, Audit}
use Rattle.np_caseless_job.specs.AskedWords.{asked_of, files_named, words_asked}
use Rattle.np_caseless_job.specs.CaselessAudits.{FoldedAuditEnds}
use Rattle.np_caseless_job.specs.CaselessComparisons.{CaselessCompareEnds}
use Rattle.np_caseless_job.specs.CaselessKeys.{CaselessKeyEnds}
use Rattle.np_caseless_job.specs.CaselessKeysUnder.{CaselessUnderEnds, FoldedUnderReaders}
use Rattle.np_caseless_job.specs.FoldedTexts.{AreFoldedTextReaders, FoldedTextReaders}
use Rattle.np_caseless_job.specs.Pairs.{ArePair, PairReaders}
use Rattle.np_caseless_job.specs.Usage.{caseless_usage, caseless_version}
use Rattle.np_caseless_job.specs.declared.words.CaselessAsked.{CaselessAsked}
use Rattle.np_caseless_job.specs.declared.words.CaselessAsked.TheVariants.{Version, Job}

-- how a job ends, over the files that its names opened; one that needs no input leaves it as it is
abbrev pub JobEndsOverFiles : (List ℕ → Option (List ℕ) → Type 0) → CaselessJob → Stream → Stream → Stream → ℕ → Type 0
JobEndsOverFiles Gives Help input output error status = WritesAnswer true caseless_usage output error status × (input.after ≡ input.before)
JobEndsOverFiles Gives (Key form files) input output error status =
    (readers : FoldedTextReaders) × AreFoldedTextReaders Gives files input readers × CaselessKeyEnds form readers output error status
JobEndsOverFiles Gives (KeyUnder form old new) input output error status =
    (readers : FoldedUnderReaders) × ArePair Gives old new readers.pair × (readers.input ≡ input) × CaselessUnderEnds form readers output error status
JobEndsOverFiles Gives (Compare form files) input output error status =
    (readers : FoldedTextReaders) × AreFoldedTextReaders Gives files input readers × CaselessCompareEnds form readers output error status
JobEndsOverFiles Gives (Audit old new) input output error status =
    (readers : PairReaders) × ArePair Gives old new readers × FoldedAuditEnds readers output error status × (input.after ≡ input.before)

-- or the version is told
abbrev pub EndsOverFiles : (List ℕ → Option (List ℕ) → Type 0) → CaselessAsked → Stream → Stream → Stream → ℕ → Type 0
EndsOverFiles Gives Version input output error status = WritesAnswer true caseless_version output error status × (input.after ≡ input.before)
EndsOverFiles Gives (Job job) input output error status = JobEndsOverFiles Gives job input output error status

-- the job is run that the words ask for; or none is asked for, and nothing of the input is read and nothing written
abbrev pub ProgramEnds : (List ℕ → Option (List ℕ) → Type 0) → (List ℕ → Type 0) → List (List ℕ) → Stream → Stream → Stream → ℕ → Type 0
ProgramEnds =
    IsProgramEnd (λ words job. words_asked words ≡ Some (asked_of job)) (λ words. words_asked words ≡ None) files_named caseless_usage EndsOverFiles
