-- Files that are read two by two.
use Rattle.std.specs.Prelude.{◌≡◌, ℕ, ◌*◌, ◌-◌, ◌<◌, false, List, [], ◌∷◌, ◌++◌, length, Option}
use Rattle.np_code_points.specs.Watched.{device_of, has_failed}
use Rattle.np_code_points.specs.declared.channels.watched.Watched.{Watched}
use Rattle.np_versions.specs.Versions.{VersionData}
use Rattle.np_jobs.specs.Chains.{WereBuilt, readers_of}
use Rattle.np_jobs.specs.Streams.{Stream, stream_of}

-- the marks of the first ones were taken away
abbrev pub AreClearedUpTo : {D : Type 0} → ℕ → List (Watched D) → List (Watched D) → Type 0
AreClearedUpTo count [] [] = Unit {0}
AreClearedUpTo count [] (y ∷ ys) = ⊥
AreClearedUpTo count (x ∷ xs) [] = ⊥
AreClearedUpTo count (x ∷ xs) (y ∷ ys) = (device_of y ≡ device_of x) × (0 < count → has_failed y ≡ false) × AreClearedUpTo (count - 1) xs ys

-- no device has failed
abbrev pub AreClear : {D : Type 0} → List (Watched D) → Type 0
AreClear [] = Unit {0}
AreClear (file ∷ files) = (has_failed file ≡ false) × AreClear files

-- two files were read, those of the version of this number, and no other
pub record IsReadAt {D : Type 0} (tells : D → Option (List ℕ)) (P : Stream → Stream → Type 0) (number : ℕ) (old new : List (Watched D)) : Type 0 where
  pub front : List (Watched D)
  pub data_old : Watched D
  pub data_new : Watched D
  pub exclusions_old : Watched D
  pub exclusions_new : Watched D
  pub behind : List (Watched D)
  pub size : length front ≡ 2 * number
  pub old_is : old ≡ front ++ data_old ∷ exclusions_old ∷ behind
  pub new_is : new ≡ front ++ data_new ∷ exclusions_new ∷ behind
  pub holds : P (stream_of tells data_old data_new) (stream_of tells exclusions_old exclusions_new)

-- the files of so many versions were read, which they make, and no others
pub record AreReadUpTo {D : Type 0} (tells : D → Option (List ℕ)) (number : ℕ) (old new : List (Watched D)) (versions : List VersionData) : Type 0 where
  pub front_old : List (Watched D)
  pub front_new : List (Watched D)
  pub behind : List (Watched D)
  pub size_old : length front_old ≡ 2 * number
  pub size_new : length front_new ≡ 2 * number
  pub old_is : old ≡ front_old ++ behind
  pub new_is : new ≡ front_new ++ behind
  pub built : WereBuilt (readers_of tells front_old front_new) versions
