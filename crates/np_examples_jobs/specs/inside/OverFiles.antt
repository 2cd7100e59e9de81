-- What the programs do for words that ask for each command, over any opener of files: the contract of `run_words`, command by command.
use Rattle.std.specs.Prelude.{◌≡◌, ◌⊎◌, ◌∷◌, ℕ, true, false, [], List, Option, Some, None, codes, flat_map}
use Rattle.np_code_points.specs.declared.forms.Form.{Form}
use Rattle.np_jobs.specs.Audits.{AuditEnds}
use Rattle.np_jobs.specs.Chains.{VersionReaders}
use Rattle.np_jobs.specs.Comparisons.{CompareEnds}
use Rattle.np_jobs.specs.Ends.{WritesAnswer}
use Rattle.np_jobs.specs.Keys.{KeyEnds}
use Rattle.np_jobs.specs.KeysUnder.{KeyUnderEnds, UnderReaders}
use Rattle.np_jobs.specs.NormalForms.{NormalizeEnds}
use Rattle.np_jobs.specs.Opening.{IsUnopened, WereOpened, both_files}
use Rattle.np_jobs.specs.Streams.{Stream}
use Rattle.np_jobs.specs.Texts.{TextReaders}
use Rattle.np_program.specs.Replays.{ReplayEnds, ReplayReaders}
use Rattle.np_program.specs.Usage.{usage_lines}
use Rattle.np_words.specs.Words.{Asked}

-- what is asked of a command with a form, over files of these names
abbrev pub asking : List ℕ → Form → List (List ℕ) → Asked
asking command form names = record { command = command; form = Some form; checks_under = false; files = names }

-- the same of `key --check-under`, and of `audit`, which has no form
abbrev pub asking_under : Form → List (List ℕ) → Asked
asking_under form names = record { command = codes "key"; form = Some form; checks_under = true; files = names }

abbrev pub asking_audit : List (List ℕ) → Asked
asking_audit names = record { command = codes "audit"; form = None; checks_under = false; files = names }

abbrev pub asking_help : Asked
asking_help = record { command = []; form = None; checks_under = false; files = [] }

module _ (Gives : List ℕ → Option (List ℕ) → Type 0) (Lacks : List ℕ → Type 0) where
  -- the first file that isn't there is told, or memory ran out; nothing of the input is read and nothing written
  abbrev pub IsNotBegun : List (List ℕ) → Stream → Stream → Stream → ℕ → Type 0
  IsNotBegun names input output error status = IsUnopened Gives Lacks names error status × (input.after ≡ input.before) × (output.after ≡ output.before)

  -- a command on one text ends so over the two files of these names and the input; or it isn't begun
  abbrev pub EndsOnText : (TextReaders → Stream → Stream → ℕ → Type 0) → List (List ℕ) → Stream → Stream → Stream → ℕ → Type 0
  EndsOnText Ends names input output error status =
      ((readers : TextReaders) × WereOpened Gives names (readers.data_file ∷ (readers.exclusions_file ∷ [])) × (readers.input ≡ input)
      × Ends readers output error status) ⊎ IsNotBegun names input output error status

  abbrev pub NormalizeOver : Form → List (List ℕ) → Stream → Stream → Stream → ℕ → Type 0
  NormalizeOver form = EndsOnText (NormalizeEnds form)

  abbrev pub KeyOver : Form → List (List ℕ) → Stream → Stream → Stream → ℕ → Type 0
  KeyOver form = EndsOnText (KeyEnds form)

  abbrev pub CompareOver : Form → List (List ℕ) → Stream → Stream → Stream → ℕ → Type 0
  CompareOver form = EndsOnText (CompareEnds form)

  -- the files are those of the earlier version and of the later one
  abbrev pub KeyUnderOver : Form → List (List ℕ) → Stream → Stream → Stream → ℕ → Type 0
  KeyUnderOver form names input output error status =
      ((readers : UnderReaders) × WereOpened Gives names (flat_map both_files readers.versions) × (readers.input ≡ input)
      × KeyUnderEnds form readers output error status) ⊎ IsNotBegun names input output error status

  abbrev pub AuditOver : List (List ℕ) → Stream → Stream → Stream → ℕ → Type 0
  AuditOver names input output error status =
      ((readers : List VersionReaders) × WereOpened Gives names (flat_map both_files readers) × AuditEnds readers output error status
      × (input.after ≡ input.before)) ⊎ IsNotBegun names input output error status

  -- the files are the schedule and those of the versions
  abbrev pub ReplayOver : Form → List (List ℕ) → Stream → Stream → Stream → ℕ → Type 0
  ReplayOver form names input output error status =
      ((readers : ReplayReaders) × WereOpened Gives names (readers.schedule_file ∷ flat_map both_files readers.versions)
      × ReplayEnds form readers output error status × (input.after ≡ input.before)) ⊎ IsNotBegun names input output error status

  abbrev pub HelpOver : Stream → Stream → Stream → ℕ → Type 0
  HelpOver input output error status =
      (WritesAnswer true usage_lines output error status × (input.after ≡ input.before)) ⊎ IsNotBegun [] input output error status
