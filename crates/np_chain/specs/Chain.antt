-- Versions in a row.
use Rattle.std.specs.Prelude.{◌≡◌, ℕ, ◌-◌, ◌<◌, ◌≤◌, List, [], ◌∷◌, take, Some, slice_get, All}
pub use Rattle.np_chain.specs.Extension.{Keeps, Extends}
use Rattle.np_chain.specs.Breaks.{IsFirstBreak}
use Rattle.np_chain.specs.declared.breaks.Break.{Break}
use Rattle.np_versions.specs.Conditions.{IsSound}
use Rattle.np_versions.specs.Versions.{VersionData}

abbrev pub EachExtends : VersionData → List VersionData → Type 0
EachExtends v [] = Unit {0}
EachExtends v (w ∷ ws) = Extends v w × EachExtends w ws

-- at least one version, each extending the one before
abbrev pub IsChain : List VersionData → Type 0
IsChain [] = ⊥
IsChain (v ∷ vs) = EachExtends v vs

-- a chain of versions that meet the conditions
pub record IsSoundChain (vs : List VersionData) : Type 0 where
  pub chain : IsChain vs
  pub sound : All IsSound vs

-- at is the first place whose version does not extend the one before, and brk is its first break
pub record IsFirstBroken (vs : List VersionData) (at : ℕ) (brk : Break) : Type 0 where
  pub old : VersionData
  pub new : VersionData
  pub behind : 0 < at
  pub before : slice_get vs (at - 1) ≡ Some old
  pub here : slice_get vs at ≡ Some new
  pub first : IsFirstBreak old new brk
  pub chain : IsChain (take at vs)

-- v stands at place i of a chain: each version up to it is extended by it, and each from it on extends it
pub record StandsAt (vs : List VersionData) (i : ℕ) (v : VersionData) : Type 0 where
  pub here : slice_get vs i ≡ Some v
  pub sound : IsSound v
  pub earlier : (j : ℕ) (u : VersionData) → j ≤ i → slice_get vs j ≡ Some u → Extends u v
  pub later : (j : ℕ) (w : VersionData) → i ≤ j → slice_get vs j ≡ Some w → Extends v w
