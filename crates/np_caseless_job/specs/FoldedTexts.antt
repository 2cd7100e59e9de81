-- How a job on one text under a version with its foldings is refused, and what it makes.
use Rattle.std.specs.Prelude.{◌≡◌, ◌⊎◌, ◌++◌, ◌∷◌, [], ℕ, Bool, List, Option}
use Rattle.np_caseless.specs.Folded.{FoldedVersion}
use Rattle.np_jobs.specs.Ends.{JobEndsBy}
use Rattle.np_jobs.specs.Opening.{WereOpened, both_files}
use Rattle.np_jobs.specs.Streams.{Stream, IsUntouched}
use Rattle.np_jobs.specs.Texts.{IsMadeOfText, IsTextFault}
use Rattle.np_jobs.specs.Wraps.{Wraps}
use Rattle.np_jobs.specs.declared.faults.TextFault.{TextFault}
use Rattle.np_words.specs.CaselessWords.{folded_names_of}
use Rattle.np_words.specs.declared.files.FoldedFiles.{FoldedFiles}
use Rattle.np_caseless_job.specs.FoldedVersions.{FoldedReaders, IsFoldedFault, WasFolded}
use Rattle.np_caseless_job.specs.Tellings.{caseless_telling}
use Rattle.np_caseless_job.specs.declared.faults.CaselessFault.{CaselessFault}
use Rattle.np_caseless_job.specs.declared.faults.CaselessFault.TheVariants.{Folded, Text}

-- the readers of a job on one text, in the order of reading
pub record FoldedTextReaders : Type 0 where
  pub files : FoldedReaders
  pub input : Stream

-- the three files of a version, in the order of the words
abbrev pub three_files : FoldedReaders → List Stream
three_files readers = both_files readers.version ++ readers.folding_file ∷ []

-- the three files were opened by their names, and the input is the program's
pub record AreFoldedTextReaders (Gives : List ℕ → Option (List ℕ) → Type 0) (files : FoldedFiles) (input : Stream) (readers : FoldedTextReaders) : Type 0 where
  pub opened : WereOpened Gives (folded_names_of files) (three_files readers.files)
  pub input_is : readers.input ≡ input

-- what a job makes of the text under the version
pub record MakesFolded (Makes : FoldedVersion → List ℕ → Bool → List ℕ → Type 0) (readers : FoldedTextReaders) (is_yes : Bool) (bytes : List ℕ) : Type 0 where
  pub v : FoldedVersion
  pub folded : WasFolded readers.files v
  pub made : IsMadeOfText (Makes v) readers.input is_yes bytes

-- the version was refused, and the input not looked at; or it was built, and the input refused
abbrev pub RefusesFolded : (FoldedVersion → List ℕ → TextFault → Type 0) → FoldedTextReaders → CaselessFault → Type 0
RefusesFolded Refuses readers fault =
    (Wraps Folded (IsFoldedFault 0 readers.files) fault × IsUntouched readers.input)
    ⊎ ((v : FoldedVersion) × WasFolded readers.files v × Wraps Text (IsTextFault (Refuses v) readers.input) fault)

-- a job on one text: what it makes is written, or why it is refused is told
abbrev pub FoldedTextEnds : (FoldedVersion → List ℕ → Bool → List ℕ → Type 0) → (FoldedVersion → List ℕ → TextFault → Type 0)
    → FoldedTextReaders → Stream → Stream → ℕ → Type 0
FoldedTextEnds Makes Refuses readers output error status =
    JobEndsBy caseless_telling (MakesFolded Makes readers) (RefusesFolded Refuses readers) output error status
