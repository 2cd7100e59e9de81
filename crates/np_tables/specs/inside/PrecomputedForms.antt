-- Forms of single code points, kept as UTF-8.
use Rattle.std.specs.Prelude.{◌≡◌, ℕ, ◌<◌, ◌≤◌, ◌⊎◌, List, [], ◌∷◌, ◌++◌, Some, None, length, take, map, encode_utf8_all, All, IsUtf8, MatchBool, slice_index_or}
use Rattle.std.specs.List.{slice_range}
use Rattle.np_code_points.specs.declared.forms.Form.{Form}
use Rattle.np_code_points.specs.Forms.{composes}
use Rattle.np_versions.specs.Boundaries.{NeverFalls}
use Rattle.np_versions.specs.Versions.{VersionData, class_of}
use Rattle.np_tables.specs.declared.precomputed_forms.ByteRange.{ByteRange}
use Rattle.np_versions.specs.inside.CompositeSearch.{composite}

-- behind `last_starter`, with which a code point of the class `last` composed last (0 where none did), the code points compose in their order: each composes
-- with it, or is a starter that does not and is the next last starter; `list` is what comes of it
abbrev pub ComposesOn : VersionData → ℕ → ℕ → List ℕ → List ℕ → Type 0
ComposesOn v last_starter last [] list = list ≡ last_starter ∷ []
ComposesOn v last_starter last (d ∷ ds) list =
    ((p : ℕ) × (composite v last_starter d ≡ Some p) × ((class_of v d ≡ 0) ⊎ (last ≤ class_of v d)) × ComposesOn v p (class_of v d) ds list)
    ⊎ ((later : List ℕ) × (class_of v d ≡ 0) × (composite v last_starter d ≡ None) × (list ≡ last_starter ∷ later) × ComposesOn v d 0 ds later)

-- `list` is what a full decomposition that begins with a starter composes to
abbrev pub Composes : VersionData → List ℕ → List ℕ → Type 0
Composes v [] list = ⊥
Composes v (c ∷ cs) list = (class_of v c ≡ 0) × ComposesOn v c 0 cs list

-- `list` is the form of a full decomposition by itself: composed where the form composes, else the decomposition as it is, in which nothing moves
abbrev pub Settles : VersionData → Form → List ℕ → List ℕ → Type 0
Settles v form lent list = MatchBool (composes form) (Composes v lent list) (NeverFalls (class_of v) lent × (list ≡ lent))

-- `new` is `old` and behind it the UTF-8 of a list of the kind
pub record Writes (Kind : List ℕ → Type 0) (old new : List ℕ) : Type 0 where
  pub list : List ℕ
  pub grown : new ≡ old ++ encode_utf8_all list
  pub is : Kind list

-- what is kept for a slot is nothing, or the form of what is lent there
pub record IsPrecomputedForm (v : VersionData) (form : Form) (lent bytes : List ℕ) : Type 0 where
  pub utf8 : IsUtf8 bytes
  pub is : (bytes ≡ []) ⊎ ((list : List ℕ) × (bytes ≡ encode_utf8_all list) × Settles v form lent list)

-- the same of each slot
abbrev pub ArePrecomputedForms : VersionData → Form → List (List ℕ) → List (List ℕ) → Type 0
ArePrecomputedForms v form lents kept = (slot : ℕ) → IsPrecomputedForm v form (slice_index_or lents slot []) (slice_index_or kept slot [])

-- the first `count` of some bytes, of which there is at least one
pub record IsFront (front bytes : List ℕ) (count : ℕ) : Type 0 where
  pub some : 0 < count
  pub fits : count ≤ length bytes
  pub is : take count bytes ≡ front

-- ---- ranges of a flat list

abbrev pub byte_range_of : List ℕ → ByteRange → List ℕ
byte_range_of bytes s = slice_range bytes s.start s.end

abbrev pub IsByteRange : ℕ → ByteRange → Type 0
IsByteRange n s = (s.start ≤ s.end) × (s.end ≤ n)

abbrev pub AreByteRanges : List ℕ → List ByteRange → Type 0
AreByteRanges bytes ranges = All (IsByteRange (length bytes)) ranges

-- the first slots have precomputed forms, and the others none yet
pub record ArePrecomputedSoFar (v : VersionData) (form : Form) (lents : List (List ℕ)) (bytes : List ℕ) (ranges : List ByteRange) (count : ℕ) : Type 0 where
  pub within : AreByteRanges bytes ranges
  pub size : length ranges ≡ count
  pub precomputed_forms : ArePrecomputedForms v form lents (map (byte_range_of bytes) ranges)
