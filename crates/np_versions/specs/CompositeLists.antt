-- Lists of primary composites in the order of their pairs (The Unicode Standard, D114).
use Rattle.std.specs.Prelude.{◌≡◌, ℕ, ◌+◌, ◌*◌, ◌<◌, false, ◌&&◌, List}
use Rattle.std.specs.List.{All, Contains}
use Rattle.std.specs.List.Sorted.{IsNonDecreasingBy}
use Rattle.np_code_points.specs.Hangul.{is_syllable}
use Rattle.np_versions.specs.Composites.{IsCompositeOf}
use Rattle.np_versions.specs.Versions.{VersionData, has_hangul}
use Rattle.np_versions.specs.declared.pairs.Composite.{Composite}

-- the list has this composite with this pair
abbrev pub Lists : List Composite → ℕ → ℕ → ℕ → Type 0
Lists cs first second code = Contains cs (record { first = first; second = second; code = code })

-- where a pair stands among all pairs of code points
abbrev pub pair_rank : ℕ → ℕ → ℕ
pair_rank first second = 0x200000 * first + second

-- where a composite stands among all composites: by its pair, then by itself
abbrev pub rank : Composite → ℕ
rank c = 0x200000 * pair_rank c.first c.second + c.code

-- code points
abbrev pub IsInRange : Composite → Type 0
IsInRange c = (c.first < 0x110000) × (c.second < 0x110000) × (c.code < 0x110000)

-- the composites in their order
pub record AreOrdered (cs : List Composite) : Type 0 where
  pub rising : IsNonDecreasingBy rank cs
  pub range : All IsInRange cs

-- the composites are those of the file: all primary composites but the syllables of the arithmetic, each with its pair
pub record AreOfFile (v : VersionData) (cs : List Composite) : Type 0 where
  pub composites : (a b c : ℕ) → Lists cs a b c → IsCompositeOf v a b c
  pub no_syllables : (a b c : ℕ) → Lists cs a b c → (has_hangul v && is_syllable c) ≡ false
  pub all : (a b c : ℕ) → IsCompositeOf v a b c → (has_hangul v && is_syllable c) ≡ false → Lists cs a b c
