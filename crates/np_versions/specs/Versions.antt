-- A version of the character tables (UAX #44): what UnicodeData.txt and CompositionExclusions.txt say of each code point.
use Rattle.std.specs.Prelude.{ℕ, zero, suc, Bool, true, false, not, ◌&&◌, ◌||◌, ◌==◌, nat_le, List, [], ◌∷◌, Option, Some, None, is_some, if◌then◌else◌}
use Rattle.np_code_points.specs.Hangul.{is_among, is_syllable, syllable_pair}
use Rattle.np_ucd.specs.Entries.{Entry}
use Rattle.np_ucd.specs.declared.rows.MapKind.{MapKind}
use Rattle.np_ucd.specs.declared.rows.MapKind.TheVariants.{Plain, Canonical, Compatibility}
use Rattle.np_ucd.specs.Listed.{Span, is_listed}

-- the rows, and the code points that are listed as exclusions
pub record VersionData : Type 0 where
  pub entries : List Entry
  pub exclusions : List Span

-- the row in which a code point lies
unfoldable pub entry_at : List Entry → ℕ → Option Entry
entry_at [] c = None
entry_at (e ∷ es) c = if nat_le e.first c && nat_le c e.last then Some e else entry_at es c

abbrev pub class_in : Option Entry → ℕ
class_in None = 0
class_in (Some e) = e.class

abbrev pub kind_in : Option Entry → MapKind
kind_in None = Plain
kind_in (Some e) = e.kind

abbrev pub mapping_in : Option Entry → List ℕ
mapping_in None = []
mapping_in (Some e) = e.mapping

-- assigned: listed, alone or inside a range
unfoldable pub is_assigned : VersionData → ℕ → Bool
is_assigned v c = is_some (entry_at v.entries c)

-- the combining class, 0 outside the rows
unfoldable pub class_of : VersionData → ℕ → ℕ
class_of v c = class_in (entry_at v.entries c)

-- kind and mapping as the file has them
unfoldable pub file_kind : VersionData → ℕ → MapKind
file_kind v c = kind_in (entry_at v.entries c)

unfoldable pub file_mapping : VersionData → ℕ → List ℕ
file_mapping v c = mapping_in (entry_at v.entries c)

abbrev pub is_canonical : MapKind → Bool
is_canonical Plain = false
is_canonical Canonical = true
is_canonical Compatibility = false

-- listed as an exclusion, and with a canonical mapping in the file
unfoldable pub is_excluded : VersionData → ℕ → Bool
is_excluded v c = is_listed v.exclusions c && is_canonical (file_kind v c)

-- ---- Hangul (section 3.12)

-- the 67 jamo and the 11,172 syllables; 11A7 is none of them
abbrev pub is_hangul : ℕ → Bool
is_hangul c = is_among 0x1100 19 c || is_among 0x1161 21 c || is_among 0x11A8 27 c || is_syllable c

abbrev pub is_empty : List ℕ → Bool
is_empty [] = true
is_empty (x ∷ xs) = false

-- as the arithmetic wants a syllable or a jamo: assigned, of class 0, with no mapping in the file
unfoldable pub is_hangul_row : VersionData → ℕ → Bool
is_hangul_row v c = is_assigned v c && class_of v c == 0 && is_empty (file_mapping v c)

-- a test holds of each number below n
unfoldable pub all_below : (ℕ → Bool) → ℕ → Bool
all_below p zero = true
all_below p (suc n) = p n && all_below p n

-- the arithmetic is on: each code point that is a syllable or a jamo is as it wants it
unfoldable pub has_hangul : VersionData → Bool
has_hangul v = all_below (λ c. not (is_hangul c) || is_hangul_row v c) 0x110000

-- ---- kind and mapping, with the syllables' pairs as canonical mappings like any other

unfoldable pub decomposition_kind : VersionData → ℕ → MapKind
decomposition_kind v c = if has_hangul v && is_syllable c then Canonical else file_kind v c

unfoldable pub decomposition_mapping : VersionData → ℕ → List ℕ
decomposition_mapping v c = if has_hangul v && is_syllable c then syllable_pair c else file_mapping v c
