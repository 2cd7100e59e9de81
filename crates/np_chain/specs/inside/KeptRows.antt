-- What holds of a row where no code point in it has a break.
use Rattle.std.specs.Prelude.{◌≡◌, ◌≢◌, ℕ, ◌≤◌, false, length, Some, None, slice_get}
use Rattle.np_chain.specs.inside.BreakTests.{break_of}
use Rattle.np_versions.specs.Versions.{VersionData, entry_at, is_assigned}
use Rattle.np_ucd.specs.Entries.{Entry}
use Rattle.np_ucd.specs.declared.rows.MapKind.TheVariants.{Plain, Canonical}

-- no code point in this row of the old version has a break
abbrev pub IsKept : VersionData → VersionData → ℕ → Type 0
IsKept old new at = (c : ℕ) (e : Entry) → slice_get old.entries at ≡ Some e → entry_at old.entries c ≡ Some e → break_of old new c ≡ None

-- where the old version lacks this code point, it has no break
abbrev pub AddsNoBreak : VersionData → VersionData → ℕ → Type 0
AddsNoBreak old new c = is_assigned old c ≡ false → break_of old new c ≡ None

-- a canonical mapping of this row has one code point
abbrev pub HasNoPair : Entry → Type 0
HasNoPair e = e.kind ≡ Canonical → length e.mapping ≡ 1

-- two rows have one class and one mapping, which is no pair, and the second one goes on as far as the first
pub record IsSameWithin (e f : Entry) : Type 0 where
  pub kind : f.kind ≡ e.kind
  pub mapping : e.kind ≢ Plain → f.mapping ≡ e.mapping
  pub no_pair : HasNoPair e
  pub last : e.last ≤ f.last
  pub class : f.class ≡ e.class

-- the row of the new version in which a row begins is such a one
pub record LiesSame (new : VersionData) (e : Entry) : Type 0 where
  pub wide : Entry
  pub found : entry_at new.entries e.first ≡ Some wide
  pub within : IsSameWithin e wide
