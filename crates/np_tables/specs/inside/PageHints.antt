-- What a table of pages keeps of each form for a code point: whether it is a boundary, and whether it is a Yes starter.
use Rattle.std.specs.Prelude.{◌≡◌, ℕ, ◌+◌, ◌*◌, ◌/◌, ◌%◌, ◌^◌, ◌<◌, ◌==◌, ◌&&◌, nat_le, Bool, true, false, List, [], ◌∷◌}
use Rattle.np_code_points.specs.declared.forms.Form.{Form}
use Rattle.np_code_points.specs.Forms.{is_compat, composes}
use Rattle.np_code_points.specs.declared.forms.Form.TheVariants.{Nfd, Nfc, Nfkd, Nfkc}
use Rattle.np_versions.specs.Boundaries.{IsBoundary, IsYesStarter}
use Rattle.np_versions.specs.Composites.{IsCompositeOf}
use Rattle.np_versions.specs.Versions.{VersionData}
use Rattle.np_tables.specs.declared.page_hints.Hints.{Hints}
use Rattle.np_versions.specs.declared.pairs.Composite.{Composite}
use Rattle.np_versions.specs.CompositeLists.{Lists}

-- the second part of no primary composite
abbrev pub IsNeverSecond : VersionData → ℕ → Type 0
IsNeverSecond v c = (a p : ℕ) → ¬ (IsCompositeOf v a c p)

-- the leading consonants of syllables are none
abbrev pub AreLeadingNeverSecond : VersionData → Type 0
AreLeadingNeverSecond v = (i : ℕ) → i < 19 → IsNeverSecond v (0x1100 + i)

-- a vowel or a trailing consonant of a syllable, or what stands between them
abbrev pub is_late_jamo : ℕ → Bool
is_late_jamo c = nat_le 0x1161 c && nat_le c 0x11C2

-- ---- of one kind of decomposition

abbrev pub boundary_under : Bool → Hints → Bool
boundary_under false h = h.boundary
boundary_under true h = h.boundary_composing

abbrev pub yes_under : Bool → Hints → Bool
yes_under false h = h.yes_starter
yes_under true h = h.yes_starter_composing

-- what is said of a code point under each form of a kind is so
pub record AreHints (v : VersionData) (compat : Bool) (c : ℕ) (h : Hints) : Type 0 where
  pub boundary : (form : Form) → is_compat form ≡ compat → boundary_under (composes form) h ≡ true → IsBoundary v form c
  pub yes_starter : (form : Form) → is_compat form ≡ compat → yes_under (composes form) h ≡ true → IsYesStarter v form c

-- of a code point that has no mapping of the kind: by its class, and whether it is no second part of a composite
abbrev pub own_hints : ℕ → Bool → Hints
own_hints class never_second = record { boundary = class == 0; boundary_composing = class == 0 && never_second; yes_starter = class == 0; yes_starter_composing = class == 0 && never_second }

-- of a syllable of the arithmetic: it begins with a leading consonant, and comes back where the form composes
abbrev pub syllable_hints : Hints
syllable_hints = record { boundary = true; boundary_composing = true; yes_starter = false; yes_starter_composing = true }

-- a starter and the code points behind it compose by a list of composites, one after the other, and in the end there is c
abbrev pub ComposesByPairs : List Composite → ℕ → List ℕ → ℕ → Type 0
ComposesByPairs cs s [] c = s ≡ c
ComposesByPairs cs s (b ∷ bs) c = (p : ℕ) × Lists cs s b p × ComposesByPairs cs p bs c

-- ---- both kinds in one number

abbrev pub bit : Bool → ℕ
bit false = 0
bit true = 1

abbrev pub four_bits : Hints → ℕ
four_bits h = bit h.boundary + 2 * bit h.boundary_composing + 4 * bit h.yes_starter + 8 * bit h.yes_starter_composing

abbrev pub eight_bits : Hints → Hints → ℕ
eight_bits canonical compatible = four_bits canonical + 16 * four_bits compatible

-- which bit tells whether a code point is a boundary
abbrev pub boundary_place : Form → ℕ
boundary_place Nfd = 0
boundary_place Nfc = 1
boundary_place Nfkd = 4
boundary_place Nfkc = 5

-- which bit tells whether a code point is a starter that passes
abbrev pub yes_place : Form → ℕ
yes_place Nfd = 2
yes_place Nfc = 3
yes_place Nfkd = 6
yes_place Nfkc = 7

abbrev pub has_bit : ℕ → ℕ → Bool
has_bit bits place = bits / 2 ^ place % 2 == 1

-- what the bits say of a code point is so
pub record AreBits (v : VersionData) (c bits : ℕ) : Type 0 where
  pub boundary : (form : Form) → has_bit bits (boundary_place form) ≡ true → IsBoundary v form c
  pub yes_starter : (form : Form) → has_bit bits (yes_place form) ≡ true → IsYesStarter v form c
