-- What a program does for its words, over any opener of files: by which contents a file of a name may have, and which names may not open.
use Rattle.std.specs.Prelude.{◌≡◌, ◌⊎◌, ℕ, List, Option}
use Rattle.np_jobs.specs.Ends.{IsTold, TellsRefusal}
use Rattle.np_jobs.specs.Opening.{IsUnopened}
use Rattle.np_jobs.specs.Streams.{Stream}
use Rattle.np_jobs.specs.declared.faults.JobFault.TheVariants.{Memory}
use Rattle.np_jobs.specs.declared.streams.Streams.{Streams}

-- how a job of a program ends over the files that its names opened
abbrev pub JobEnd : Type 0 → Type 1
JobEnd J = (List ℕ → Option (List ℕ) → Type 0) → J → Stream → Stream → Stream → ℕ → Type 0

-- a run ended so over its files; or the first of them that doesn't open was told, and input and output stand as they stood
abbrev pub EndsOrIsUnopened : {I O E : Type 0} → Type 0 → Type 0 → Streams I O E → Streams I O E → Type 0
EndsOrIsUnopened ended unopened old new = ended ⊎ (unopened × (new.input ≡ old.input) × (new.output ≡ old.output))

-- no job is asked for: the words ask for nothing that there is, or memory ran out
abbrev pub IsNotAsked : (List (List ℕ) → Type 0) → List ℕ → List (List ℕ) → Stream → ℕ → Type 0
IsNotAsked AsksNothing usage words error status = (AsksNothing words × IsTold error usage × (status ≡ 2)) ⊎ TellsRefusal Memory error status

-- the job is run over its files; or the first of them that doesn't open is told, and nothing of the input is read and nothing written
abbrev pub IsRun : {J : Type 0} → (J → List (List ℕ)) → JobEnd J → (List ℕ → Option (List ℕ) → Type 0) → (List ℕ → Type 0)
    → J → Stream → Stream → Stream → ℕ → Type 0
IsRun files_of Ends Gives Lacks job input output error status =
    Ends Gives job input output error status
    ⊎ (IsUnopened Gives Lacks (files_of job) error status × (input.after ≡ input.before) × (output.after ≡ output.before))

-- the job is run that the words ask for; or none is asked for, and nothing of the input is read and nothing written
abbrev pub IsProgramEnd : {J : Type 0} → (List (List ℕ) → J → Type 0) → (List (List ℕ) → Type 0) → (J → List (List ℕ)) → List ℕ → JobEnd J
    → (List ℕ → Option (List ℕ) → Type 0) → (List ℕ → Type 0) → List (List ℕ) → Stream → Stream → Stream → ℕ → Type 0
IsProgramEnd {J} Asks AsksNothing files_of usage Ends Gives Lacks words input output error status =
    ((job : J) × Asks words job × IsRun files_of Ends Gives Lacks job input output error status)
    ⊎ (IsNotAsked AsksNothing usage words error status × (input.after ≡ input.before) × (output.after ≡ output.before))
