-- How a job reads the files of a chain's versions, two for each.
use Rattle.std.specs.Prelude.{◌≡◌, ℕ, List, [], ◌∷◌, ◌++◌, length, All, Option}
use Rattle.std.specs.List.{AllZip}
use Rattle.np_code_points.specs.declared.channels.watched.Watched.{Watched}
use Rattle.np_versions.specs.Versions.{VersionData}
use Rattle.np_jobs.specs.Streams.{Stream, IsUntouched, stream_of}
use Rattle.np_jobs.specs.Versions.{WasBuilt, IsVersionFault}
use Rattle.np_jobs.specs.declared.faults.VersionFault.{VersionFault}

-- the two files of a version
pub record VersionReaders : Type 0 where
  pub data_file : Stream
  pub exclusions_file : Stream

-- files before a job and after it, two for each version, in the order of the words
abbrev pub readers_of : {D : Type 0} → (D → Option (List ℕ)) → List (Watched D) → List (Watched D) → List VersionReaders
readers_of tells (data_old ∷ exclusions_old ∷ old) (data_new ∷ exclusions_new ∷ new) =
    record { data_file = stream_of tells data_old data_new; exclusions_file = stream_of tells exclusions_old exclusions_new } ∷ readers_of tells old new
readers_of tells _ _ = []

-- each two files make a version, in order
abbrev pub WereBuilt : List VersionReaders → List VersionData → Type 0
WereBuilt readers versions = AllZip (λ files v. WasBuilt files.data_file files.exclusions_file v) readers versions

-- neither file was looked at
abbrev pub AreUntouched : VersionReaders → Type 0
AreUntouched files = IsUntouched files.data_file × IsUntouched files.exclusions_file

-- the first version that was refused, told by its place: those before it were built, and the files behind it not looked at
pub record LacksOne (readers : List VersionReaders) (fault : VersionFault) : Type 0 where
  pub before : List VersionReaders
  pub here : VersionReaders
  pub behind : List VersionReaders
  pub are : readers ≡ before ++ here ∷ behind
  pub versions : List VersionData
  pub built : WereBuilt before versions
  pub refused : IsVersionFault (length before) here.data_file here.exclusions_file fault
  pub untouched : All AreUntouched behind
