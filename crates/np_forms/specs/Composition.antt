-- Canonical composition (The Unicode Standard, D115 to D117): a machine on a list and a place in it.
use Rattle.std.specs.Prelude.{◌≡◌, ◌≢◌, ℕ, ◌+◌, ◌<◌, ◌≤◌, ◌⊎◌, List, length, slice_index, slice_set, remove}
use Rattle.np_versions.specs.Composites.{IsCompositeOf}
use Rattle.np_code_points.specs.Steps.{Reaches}
use Rattle.np_versions.specs.Versions.{VersionData, class_of}

-- what stands at j is blocked from what stands at i (D115): a place between them has class 0, or at least the class at j
pub record IsBlocked (v : VersionData) (xs : List ℕ) (i j : ℕ) : Type 0 where
  pub at : ℕ
  pub behind : i < at
  pub before : at < j
  pub blocks : (class_of v (slice_index xs at) ≡ 0) ⊎ (class_of v (slice_index xs j) ≤ class_of v (slice_index xs at))

-- q is the greatest place below p that holds a starter
pub record IsLastStarter (v : VersionData) (xs : List ℕ) (p q : ℕ) : Type 0 where
  pub below : q < p
  pub starter : class_of v (slice_index xs q) ≡ 0
  pub greatest : (k : ℕ) → q < k → k < p → class_of v (slice_index xs k) ≢ 0

-- what stands at p composes with the starter at q, and the two become c
pub record Joins (v : VersionData) (xs : List ℕ) (p q c : ℕ) : Type 0 where
  pub seek : IsLastStarter v xs p q
  pub free : ¬ IsBlocked v xs q p
  pub pair : IsCompositeOf v (slice_index xs q) (slice_index xs p) c

pub record Stage : Type 0 where
  pub text : List ℕ
  pub place : ℕ

-- the composite is put at q, the code point at p is deleted, and the place stays
pub record StepsIn (v : VersionData) (old new : Stage) : Type 0 where
  pub q : ℕ
  pub c : ℕ
  pub joins : Joins v old.text old.place q c
  pub text : new.text ≡ remove (slice_set old.text q c) old.place
  pub place : new.place ≡ old.place

-- nothing goes in, and the place becomes the next one
pub record StepsOn (v : VersionData) (old new : Stage) : Type 0 where
  pub none : (q c : ℕ) → ¬ Joins v old.text old.place q c
  pub text : new.text ≡ old.text
  pub place : new.place ≡ old.place + 1

-- one step; there is none where the place is at or past the list's end
abbrev pub ComposeStep : VersionData → Stage → Stage → Type 0
ComposeStep v old new = (old.place < length old.text) × (StepsIn v old new ⊎ StepsOn v old new)

-- the machine, begun at place 1, stops with ys
pub record IsComposed (v : VersionData) (xs ys : List ℕ) : Type 0 where
  pub place : ℕ
  pub reached : Reaches (ComposeStep v) (record { text = xs; place = 1 }) (record { text = ys; place = place })
  pub ended : length ys ≤ place
