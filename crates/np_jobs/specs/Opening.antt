-- Files that are opened by their names, and which of them doesn't open.
use Rattle.std.specs.Prelude.{◌≡◌, ◌⊎◌, ℕ, List, [], ◌∷◌, ◌++◌, map, All, Option, codes}
use Rattle.std.specs.List.{AllZip}
use Rattle.np_jobs.specs.Chains.{VersionReaders}
use Rattle.np_jobs.specs.Ends.{IsTold, TellsRefusal}
use Rattle.np_jobs.specs.Streams.{Stream}
use Rattle.np_jobs.specs.Texts.{TextReaders}
use Rattle.np_words.specs.Words.{names_of}
use Rattle.np_jobs.specs.declared.faults.JobFault.TheVariants.{Memory}
use Rattle.np_words.specs.declared.files.VersionFiles.{VersionFiles}

-- the files of a version, in the order of the words
abbrev pub both_files : VersionReaders → List Stream
both_files files = files.data_file ∷ (files.exclusions_file ∷ [])

-- each name was opened, as it stands, and gave the file of its place: by which contents a file of a name may have
abbrev pub WereOpened : (List ℕ → Option (List ℕ) → Type 0) → List (List ℕ) → List Stream → Type 0
WereOpened Gives names files = AllZip Gives names (map (λ (file : Stream). file.before) files)

-- the readers of a job on one text: its two files were opened by their names, and its input is the program's
pub record AreTextReaders (Gives : List ℕ → Option (List ℕ) → Type 0) (files : VersionFiles) (input : Stream) (readers : TextReaders) : Type 0 where
  pub opened : WereOpened Gives (names_of files) (readers.data_file ∷ (readers.exclusions_file ∷ []))
  pub input_is : readers.input ≡ input

-- a name opened
abbrev pub Opens : (List ℕ → Option (List ℕ) → Type 0) → List ℕ → Type 0
Opens Gives name = (contents : Option (List ℕ)) × Gives name contents

-- the first of some names that did not open: those before it did
pub record IsFirstUnopened (Gives : List ℕ → Option (List ℕ) → Type 0) (Lacks : List ℕ → Type 0) (names : List (List ℕ)) (name : List ℕ) : Type 0 where
  pub before : List (List ℕ)
  pub behind : List (List ℕ)
  pub are : names ≡ before ++ name ∷ behind
  pub opened : All (Opens Gives) before
  pub lacks : Lacks name

-- the first name that doesn't open is told; or memory ran out, for its line or for the files
abbrev pub IsUnopened : (List ℕ → Option (List ℕ) → Type 0) → (List ℕ → Type 0) → List (List ℕ) → Stream → ℕ → Type 0
IsUnopened Gives Lacks names error status =
    ((name : List ℕ) × IsFirstUnopened Gives Lacks names name × IsTold error (codes "cannot open " ++ (name ++ codes "\n")) × (status ≡ 5))
    ⊎ TellsRefusal Memory error status
