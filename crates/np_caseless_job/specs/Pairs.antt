-- How a job reads two versions with their foldings.
use Rattle.std.specs.Prelude.{◌⊎◌, ◌++◌, ℕ, List, Option}
use Rattle.np_caseless.specs.Folded.{FoldedVersion}
use Rattle.np_jobs.specs.Opening.{WereOpened}
use Rattle.np_words.specs.CaselessWords.{folded_names_of}
use Rattle.np_words.specs.declared.files.FoldedFiles.{FoldedFiles}
use Rattle.np_caseless_job.specs.FoldedTexts.{three_files}
use Rattle.np_caseless_job.specs.FoldedVersions.{AreUnread, FoldedReaders, IsFoldedFault, WasFolded}
use Rattle.np_caseless_job.specs.declared.faults.FoldedFault.{FoldedFault}

-- the files of two versions
pub record PairReaders : Type 0 where
  pub first : FoldedReaders
  pub second : FoldedReaders

-- they were opened by their names, the old one's first
abbrev pub ArePair : (List ℕ → Option (List ℕ) → Type 0) → FoldedFiles → FoldedFiles → PairReaders → Type 0
ArePair Gives old new readers = WereOpened Gives (folded_names_of old ++ folded_names_of new) (three_files readers.first ++ three_files readers.second)

-- both were built
abbrev pub WereFolded : PairReaders → FoldedVersion → FoldedVersion → Type 0
WereFolded readers old new = WasFolded readers.first old × WasFolded readers.second new

-- the old version was refused, and the files of the new one not looked at; or it was built, and the new one refused
abbrev pub LacksOne : PairReaders → FoldedFault → Type 0
LacksOne readers fault =
    (IsFoldedFault 0 readers.first fault × AreUnread readers.second)
    ⊎ (((v : FoldedVersion) × WasFolded readers.first v) × IsFoldedFault 1 readers.second fault)
