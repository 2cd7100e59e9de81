-- Of the first fault of each kind the one that is told.
use Rattle.std.specs.Prelude.{Option, Some, None, nat_lt, option_map, if◌then◌else◌, ℕ, ◌≤◌, MatchOption}
use Rattle.np_versions.specs.declared.faults.FirstFaults.{FirstFaults}
use Rattle.np_versions.specs.declared.faults.TableFault.{TableFault}
use Rattle.np_versions.specs.declared.faults.TableFault.TheVariants.{MapsToUnassigned, TooDeep, TooLong, AmbiguousPair, HangulWrong}
use Rattle.np_versions.specs.TableFaults.{place_of}
use Rattle.np_versions.specs.Faults.{IsMappedToUnassigned, IsTooDeep, IsTooLong, IsAmbiguous, IsHangulWrong}
use Rattle.np_versions.specs.Versions.{VersionData}

-- the first, unless the second stands at a smaller code point
abbrev pub sooner : Option TableFault → Option TableFault → Option TableFault
sooner None second = second
sooner (Some f) None = Some f
sooner (Some f) (Some g) = if nat_lt (place_of g) (place_of f) then Some g else Some f

-- of the first fault of each kind the one that is told
abbrev pub least_fault : FirstFaults → Option TableFault
least_fault f =
    sooner (sooner (sooner (sooner (option_map MapsToUnassigned f.mapped) (option_map TooDeep f.deep)) (option_map TooLong f.long)) (option_map AmbiguousPair f.ambiguous)) (option_map HangulWrong f.hangul)

-- the least number with a property
pub record IsLeastOf (P : ℕ → Type 0) (c : ℕ) : Type 0 where
  pub holds : P c
  pub least : (d : ℕ) → P d → c ≤ d

-- the least number with a property, or none where no number has it
abbrev pub IsFirst : (ℕ → Type 0) → Option ℕ → Type 0
IsFirst P first = MatchOption first ((c : ℕ) → ¬ P c) (IsLeastOf P)

-- the first fault of each kind
pub record AreFirsts (v : VersionData) (f : FirstFaults) : Type 0 where
  pub mapped : IsFirst (IsMappedToUnassigned v) f.mapped
  pub deep : IsFirst (IsTooDeep v) f.deep
  pub long : IsFirst (IsTooLong v) f.long
  pub ambiguous : IsFirst (IsAmbiguous v) f.ambiguous
  pub hangul : IsFirst (IsHangulWrong v) f.hangul
