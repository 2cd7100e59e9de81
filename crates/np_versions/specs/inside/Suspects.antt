-- Composites whose pair another one may have.
use Rattle.std.specs.Prelude.{◌≡◌, ℕ, ◌+◌, ◌≤◌, ◌<◌, ◌&&◌, ◌⊎◌, min, max, true, List, [], ◌∷◌, Option, Some, None, MatchOption}
use Rattle.std.specs.List.{slice_get}
use Rattle.np_code_points.specs.Hangul.{is_syllable, syllable_pair}
use Rattle.np_versions.specs.Versions.{VersionData, has_hangul}
use Rattle.np_versions.specs.declared.pairs.Composite.{Composite}

-- there is one, and it is at most c
abbrev pub IsAtMost : Option ℕ → ℕ → Type 0
IsAtMost first c = MatchOption first ⊥ (λ f. f ≤ c)

abbrev pub least_of : Option ℕ → Option ℕ → Option ℕ
least_of None o = o
least_of (Some a) None = Some a
least_of (Some a) (Some b) = Some (min a b)

-- the composite before this place has the same pair, and is smaller
pub record HasSmallerTwin (cs : List Composite) (place : ℕ) : Type 0 where
  pub behind : ℕ
  pub next : place ≡ behind + 1
  pub before : Composite
  pub here : Composite
  pub before_at : slice_get cs behind ≡ Some before
  pub here_at : slice_get cs place ≡ Some here
  pub first : before.first ≡ here.first
  pub second : before.second ≡ here.second
  pub smaller : before.code < here.code

-- c is the composite at this place, which has a smaller twin
pub record IsTwin (cs : List Composite) (place c : ℕ) : Type 0 where
  pub twin : HasSmallerTwin cs place
  pub here : Composite
  pub here_at : slice_get cs place ≡ Some here
  pub code : c ≡ here.code

-- c is the greater of the composite at this place and of the syllable with its pair
pub record IsBesideSyllable (v : VersionData) (cs : List Composite) (place c : ℕ) : Type 0 where
  pub here : Composite
  pub here_at : slice_get cs place ≡ Some here
  pub syllable : ℕ
  pub on : (has_hangul v && is_syllable syllable) ≡ true
  pub pair : syllable_pair syllable ≡ here.first ∷ here.second ∷ []
  pub code : c ≡ max syllable here.code

abbrev pub IsSuspect : VersionData → List Composite → ℕ → ℕ → Type 0
IsSuspect v cs place c = IsTwin cs place c ⊎ IsBesideSyllable v cs place c
