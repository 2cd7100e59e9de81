-- What a later version breaks of an earlier one. A code point can have a break of six kinds; the least of them counts.
use Rattle.std.specs.Prelude.{◌≡◌, ◌≢◌, ℕ, ◌<◌, ◌≤◌, true, false, List, codes}
use Rattle.std.specs.List.{list_all, All, AllPairs, Contains}
use Rattle.np_chain.specs.declared.breaks.Break.{Break}
use Rattle.np_chain.specs.declared.breaks.BreakKind.{BreakKind}
use Rattle.np_chain.specs.declared.breaks.BreakKind.TheVariants.{Lost, ClassChanged, MappingChanged, NowExcluded, NowIncluded, NewComposite}
use Rattle.np_versions.specs.Composites.{IsPrimary}
use Rattle.np_versions.specs.Versions.{VersionData, is_assigned, class_of, decomposition_kind, decomposition_mapping}

-- the name of a kind, and its place in their order
abbrev pub naming_of : BreakKind → List ℕ × ℕ
naming_of Lost = (codes "Lost", 1)
naming_of ClassChanged = (codes "ClassChanged", 2)
naming_of MappingChanged = (codes "MappingChanged", 3)
naming_of NowExcluded = (codes "NowExcluded", 4)
naming_of NowIncluded = (codes "NowIncluded", 5)
naming_of NewComposite = (codes "NewComposite", 6)

abbrev pub name_of : BreakKind → List ℕ
name_of kind = (naming_of kind).0

abbrev pub number_of : BreakKind → ℕ
number_of kind = (naming_of kind).1

-- ---- the six kinds

pub record IsInBoth (old new : VersionData) (c : ℕ) : Type 0 where
  pub in_old : is_assigned old c ≡ true
  pub in_new : is_assigned new c ≡ true

-- the same kind of mapping, and the same mapping
pub record MapsAlike (old new : VersionData) (c : ℕ) : Type 0 where
  pub kind : decomposition_kind new c ≡ decomposition_kind old c
  pub mapping : decomposition_mapping new c ≡ decomposition_mapping old c

-- a primary composite of new, whose parts are assigned in old
pub record ComposesOld (old new : VersionData) (c : ℕ) : Type 0 where
  pub primary : IsPrimary new c
  pub parts : list_all (is_assigned old) (decomposition_mapping new c) ≡ true

-- the code point c, of at most 10FFFF (`Laws.AreOfCodePoints`), has a break of this kind
abbrev pub HasBreak : VersionData → VersionData → ℕ → BreakKind → Type 0
HasBreak old new c Lost = (is_assigned old c ≡ true) × (is_assigned new c ≡ false)
HasBreak old new c ClassChanged = IsInBoth old new c × (class_of new c ≢ class_of old c)
HasBreak old new c MappingChanged = IsInBoth old new c × (¬ MapsAlike old new c)
HasBreak old new c NowExcluded = IsPrimary old c × (¬ IsPrimary new c)
HasBreak old new c NowIncluded = (is_assigned old c ≡ true) × (¬ IsPrimary old c) × ComposesOld old new c
HasBreak old new c NewComposite = (is_assigned old c ≡ false) × ComposesOld old new c

-- the break of a code point: the least kind that it has
pub record IsBreakOf (old new : VersionData) (c : ℕ) (kind : BreakKind) : Type 0 where
  pub has : HasBreak old new c kind
  pub least : (other : BreakKind) → HasBreak old new c other → number_of kind ≤ number_of other

-- ---- all breaks, and the first one

-- each code point that has a break, once, in order
pub record AreBreaks (old new : VersionData) (breaks : List Break) : Type 0 where
  pub each : All (λ b. IsBreakOf old new b.code b.kind) breaks
  pub rises : AllPairs (λ b d. b.code < d.code) breaks
  pub whole : (c : ℕ) (kind : BreakKind) → IsBreakOf old new c kind → Contains breaks (record { kind = kind; code = c })

-- the break of the least code point that has one
pub record IsFirstBreak (old new : VersionData) (first : Break) : Type 0 where
  pub breaks : IsBreakOf old new first.code first.kind
  pub least : (c : ℕ) (kind : BreakKind) → HasBreak old new c kind → first.code ≤ c
