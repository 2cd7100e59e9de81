-- Decomposition_Type and Decomposition_Mapping, as they stand in their field (UAX #44, table 9).
use Rattle.std.specs.Prelude.{◌≡◌, ℕ, ◌≤◌, List, [], ◌∷◌, ◌++◌, length, ◌⊎◌}
use Rattle.std.specs.List.{AllZip}
use Rattle.np_code_points.specs.Codes.{IsScalarOf}
use Rattle.np_code_points.specs.Lines.{HasNo}
use Rattle.np_code_points.specs.Words.{AreDividers, AreWords}
use Rattle.np_code_points.specs.declared.words.Dividers.TheVariants.{Spaces}
use Rattle.np_ucd.specs.Entries.{MapKind, Plain, Canonical, Compatibility}

-- Decomposition_Type, told apart as canonical and not, and Decomposition_Mapping
pub record Mapping : Type 0 where
  pub kind : MapKind
  pub codes : List ℕ

-- at least one of them, and at most so many, divided by spaces
pub record AreCodes (most : ℕ) (text codes : List ℕ) : Type 0 where
  pub words : List (List ℕ)
  pub are : AreWords Spaces text words
  pub say : AllZip IsScalarOf words codes
  pub some : 1 ≤ length codes
  pub few : length codes ≤ most

-- a tag between '<' (60) and the next '>' (62) stands in front of a compatibility mapping
pub record IsTagged (field codes : List ℕ) : Type 0 where
  pub spaces : List ℕ
  pub tag : List ℕ
  pub rest : List ℕ
  pub stands : field ≡ spaces ++ 60 ∷ (tag ++ 62 ∷ rest)
  pub blank : AreDividers Spaces spaces
  pub closed : HasNo 62 tag
  pub are : AreCodes 32 rest codes

-- no mapping; a canonical one of one or two code points; a compatibility one of up to 32
abbrev pub IsMapping : List ℕ → Mapping → Type 0
IsMapping field to =
    (AreDividers Spaces field × (to ≡ record { kind = Plain; codes = [] }))
    ⊎ ((AreCodes 2 field to.codes × (to.kind ≡ Canonical)) ⊎ (IsTagged field to.codes × (to.kind ≡ Compatibility)))
