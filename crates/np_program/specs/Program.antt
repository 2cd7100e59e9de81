-- What the program does for its words, over any opener of files: by which contents a file of a name may have, and which names may not open.
use Rattle.std.specs.Prelude.{◌≡◌, ◌++◌, ◌∷◌, ℕ, true, None, Some, List, Option, flat_map, string_bytes}
use Rattle.np_jobs.specs.Audits.{AuditEnds}
use Rattle.np_jobs.specs.Chains.{VersionReaders}
use Rattle.np_jobs.specs.Comparisons.{CompareEnds}
use Rattle.np_jobs.specs.Ends.{WritesAnswer}
use Rattle.np_jobs.specs.Keys.{KeyEnds}
use Rattle.np_jobs.specs.KeysUnder.{KeyUnderEnds, UnderReaders}
use Rattle.np_jobs.specs.NormalForms.{NormalizeEnds}
use Rattle.np_jobs.specs.Opening.{AreTextReaders, WereOpened, both_files}
use Rattle.np_jobs.specs.Programs.{IsProgramEnd}
use Rattle.np_jobs.specs.Streams.{Stream}
use Rattle.np_jobs.specs.Texts.{TextReaders}
use Rattle.np_words.specs.Words.{asked_by, asked_of, names_of}
use Rattle.np_program.specs.Replays.{ReplayEnds, ReplayReaders}
use Rattle.np_words.specs.declared.parsing.Job.{Job}
use Rattle.np_words.specs.declared.parsing.Job.TheVariants.{Help, Normalize, Key, KeyUnder, Compare, Audit, Replay}
use Rattle.np_words.specs.declared.files.VersionFiles.{VersionFiles}
use Rattle.np_program.specs.Usage.{usage_lines}

-- the readers of two versions were opened by their names, the old one's first
abbrev pub ArePair : (List ℕ → Option (List ℕ) → Type 0) → VersionFiles → VersionFiles → List VersionReaders → Type 0
ArePair Gives old new versions = WereOpened Gives (names_of old ++ names_of new) (flat_map both_files versions)

-- the readers of a replay were opened by their names, the schedule first
abbrev pub AreReplayReaders : (List ℕ → Option (List ℕ) → Type 0) → List ℕ → List VersionFiles → ReplayReaders → Type 0
AreReplayReaders Gives schedule_file version_files readers =
    WereOpened Gives (schedule_file ∷ flat_map names_of version_files) (readers.schedule_file ∷ flat_map both_files readers.versions)

-- how a job ends, over the files that its names opened; one that needs no input leaves it as it is
abbrev pub EndsOverFiles : (List ℕ → Option (List ℕ) → Type 0) → Job → Stream → Stream → Stream → ℕ → Type 0
EndsOverFiles Gives Help input output error status = WritesAnswer true usage_lines output error status × (input.after ≡ input.before)
EndsOverFiles Gives (Normalize form files) input output error status =
    (readers : TextReaders) × AreTextReaders Gives files input readers × NormalizeEnds form readers output error status
EndsOverFiles Gives (Key form files) input output error status =
    (readers : TextReaders) × AreTextReaders Gives files input readers × KeyEnds form readers output error status
EndsOverFiles Gives (KeyUnder form old new) input output error status =
    (readers : UnderReaders) × ArePair Gives old new readers.versions × (readers.input ≡ input) × KeyUnderEnds form readers output error status
EndsOverFiles Gives (Compare form files) input output error status =
    (readers : TextReaders) × AreTextReaders Gives files input readers × CompareEnds form readers output error status
EndsOverFiles Gives (Audit old new) input output error status =
    (readers : List VersionReaders) × ArePair Gives old new readers × AuditEnds readers output error status × (input.after ≡ input.before)
EndsOverFiles Gives (Replay form schedule_file version_files) input output error status =
    (readers : ReplayReaders) × AreReplayReaders Gives (string_bytes schedule_file) version_files.items readers × ReplayEnds form readers output error status
    × (input.after ≡ input.before)

-- the job is run that the words ask for; or none is asked for, and nothing of the input is read and nothing written
abbrev pub ProgramEnds : (List ℕ → Option (List ℕ) → Type 0) → (List ℕ → Type 0) → List (List ℕ) → Stream → Stream → Stream → ℕ → Type 0
ProgramEnds =
    IsProgramEnd (λ words job. asked_by words ≡ Some (asked_of job)) (λ words. asked_by words ≡ None) (λ job. (asked_of job).files) usage_lines
    EndsOverFiles
