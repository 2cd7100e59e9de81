-- Of the faults at a code point the one with the least number, and of these the first. That of a lowercase is found apart.
use Rattle.std.specs.Prelude.{◌≡◌, ℕ, ◌+◌, ◌<◌, ◌⊎◌, true, ◌&&◌, get_or, length, nat_lt, List, Option, Some, None, option_map, slice_get, MatchOption, if◌then◌else◌}
use Rattle.np_code_points.specs.Hangul.{is_syllable}
use Rattle.np_foldings.specs.Foldings.{Folding}
use Rattle.np_ucd.specs.Entries.{Entry}
use Rattle.np_versions.specs.Mappings.{is_final}
use Rattle.np_versions.specs.Versions.{VersionData, has_hangul}
use Rattle.np_caseless.specs.ConditionFaults.{place_of}
use Rattle.np_caseless.specs.Faults.{IsUnassignedFolded, IsFoldedToUnassigned, IsFoldedAgain, IsFoldedTooLong}
use Rattle.np_caseless.specs.Folded.{FoldedVersion, is_quiet}
use Rattle.np_caseless.specs.declared.faults.ConditionFault.{ConditionFault}
use Rattle.np_caseless.specs.declared.faults.ConditionFault.TheVariants.{FoldsUnassigned, FoldsToUnassigned, FoldsAgain, FoldedTooLong, NotFolded, Memory}

-- a code point has none of the faults that only one that folds can have
pub record FoldsWell (v : FoldedVersion) (c : ℕ) : Type 0 where
  pub assigned : ¬ (IsUnassignedFolded v c)
  pub to_assigned : ¬ (IsFoldedToUnassigned v c)
  pub once : ¬ (IsFoldedAgain v c)

-- nor is it too long
pub record IsFine (v : FoldedVersion) (c : ℕ) : Type 0 where
  pub folds : FoldsWell v c
  pub short : ¬ (IsFoldedTooLong v c)

-- the fault of a code point with the least number
abbrev pub IsFaultAt : FoldedVersion → ℕ → ConditionFault → Type 0
IsFaultAt v c (FoldsUnassigned code) = (code ≡ c) × IsUnassignedFolded v c
IsFaultAt v c (FoldsToUnassigned code) = (code ≡ c) × IsFoldedToUnassigned v c × (¬ (IsUnassignedFolded v c))
IsFaultAt v c (FoldsAgain code) = (code ≡ c) × IsFoldedAgain v c × (¬ (IsUnassignedFolded v c)) × (¬ (IsFoldedToUnassigned v c))
IsFaultAt v c (FoldedTooLong code) = (code ≡ c) × IsFoldedTooLong v c × FoldsWell v c
IsFaultAt v c (NotFolded code) = ⊥
IsFaultAt v c Memory = ⊥

-- that of the least of some code points
pub record IsFirstFault (v : FoldedVersion) (S : ℕ → Type 0) (f : ConditionFault) : Type 0 where
  pub at : IsFaultAt v (place_of f) f
  pub before : (c : ℕ) → S c → c < place_of f → IsFine v c

-- it, or none where none of them has any
abbrev pub IsFirstOf : FoldedVersion → (ℕ → Type 0) → Option ConditionFault → Type 0
IsFirstOf v S first = MatchOption first ((c : ℕ) → S c → IsFine v c) (IsFirstFault v S)

-- the first, unless the second stands at a smaller code point
abbrev pub sooner : Option ConditionFault → Option ConditionFault → Option ConditionFault
sooner None second = second
sooner (Some f) None = Some f
sooner (Some f) (Some g) = if nat_lt (place_of g) (place_of f) then Some g else Some f

-- that of a lowercase
abbrev pub lowercase_fault : Option ℕ → Option ConditionFault
lowercase_fault code = option_map NotFolded code

-- what one of the first places lists
abbrev pub Below : (ℕ → ℕ → Type 0) → ℕ → ℕ → Type 0
Below At n c = (k : ℕ) × (k < n) × At k c

-- the code point of the folding at a place
abbrev pub IsFoldingAt : List Folding → ℕ → ℕ → Type 0
IsFoldingAt foldings k c = option_map (λ f. f.code) (slice_get foldings k) ≡ Some c

-- the first code point of the row at a place
abbrev pub IsRowAt : List Entry → ℕ → ℕ → Type 0
IsRowAt entries k c = option_map (λ e. e.first) (slice_get entries k) ≡ Some c

-- a code point, where it folds to itself alone
abbrev pub IsQuietHere : List Folding → ℕ → ℕ → Type 0
IsQuietHere foldings code c = (c ≡ code) × (is_quiet foldings c ≡ true)

-- the code point at a place of a list
abbrev pub IsCodeAt : List ℕ → ℕ → ℕ → Type 0
IsCodeAt codes k c = get_or codes k 0 ≡ c

-- where it folds to itself alone
abbrev pub IsQuietCodeAt : FoldedVersion → List ℕ → ℕ → ℕ → Type 0
IsQuietCodeAt v codes k c = IsCodeAt codes k c × (is_quiet v.foldings c ≡ true)

-- a code point has no mapping, or that of the arithmetic
abbrev pub HasNoMapping : VersionData → ℕ → Type 0
HasNoMapping v c = (is_final v true c ≡ true) ⊎ ((has_hangul v && is_syllable c) ≡ true)

-- a list has the first code point of each of the first rows that has another mapping
abbrev pub AreMappedBelow : VersionData → ℕ → List ℕ → Type 0
AreMappedBelow v n codes = (c : ℕ) → Below (IsRowAt v.entries) n c → HasNoMapping v c ⊎ Below (IsCodeAt codes) (length codes) c

-- of each row
abbrev pub AreMapped : VersionData → List ℕ → Type 0
AreMapped v codes = AreMappedBelow v (length v.entries) codes

-- the syllable at a place
abbrev pub IsSyllableAt : ℕ → ℕ → Type 0
IsSyllableAt k c = c ≡ 0xAC00 + k

-- a syllable of the arithmetic
abbrev pub IsOfArithmetic : FoldedVersion → ℕ → Type 0
IsOfArithmetic v c = (has_hangul v.version && is_syllable c) ≡ true
