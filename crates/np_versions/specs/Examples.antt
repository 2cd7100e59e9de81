-- Three versions that meet the conditions: laws over all versions that do are not empty.
use Rattle.std.specs.Prelude.{ℕ, [], ◌∷◌}
use Rattle.np_ucd.specs.Entries.{Entry}
use Rattle.np_ucd.specs.declared.rows.MapKind.TheVariants.{Plain, Canonical}
use Rattle.np_versions.specs.Versions.{VersionData}

-- a row of this class without a mapping
abbrev pub plain : ℕ → ℕ → ℕ → Entry
plain first last class = record { first = first; last = last; class = class; kind = Plain; mapping = [] }

-- LATIN CAPITAL LETTER A WITH RING ABOVE
abbrev pub letter_with_ring : Entry
letter_with_ring = record { first = 0xC5; last = 0xC5; class = 0; kind = Canonical; mapping = 0x41 ∷ 0x30A ∷ [] }

-- the version of empty files
abbrev pub without_rows : VersionData
without_rows = record { entries = []; exclusions = [] }

-- that of LATIN CAPITAL LETTER A, a starter, of COMBINING RING ABOVE, of class 230, and of their primary composite
abbrev pub with_rows : VersionData
with_rows = record { entries = plain 0x41 0x41 0 ∷ letter_with_ring ∷ plain 0x30A 0x30A 230 ∷ []; exclusions = [] }

-- that of the three, the Hangul jamo and the syllables
abbrev pub with_hangul : VersionData
with_hangul =
    record { entries = plain 0x41 0x41 0 ∷ letter_with_ring ∷ plain 0x30A 0x30A 230 ∷ plain 0x1100 0x11FF 0 ∷ plain 0xAC00 0xD7A3 0 ∷ []; exclusions = [] }
