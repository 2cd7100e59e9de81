-- Primary composites (The Unicode Standard, D112 to D114).
use Rattle.std.specs.Prelude.{◌≡◌, ℕ, false, [], ◌∷◌}
use Rattle.np_ucd.specs.declared.rows.MapKind.TheVariants.{Canonical}
use Rattle.np_versions.specs.Versions.{VersionData, class_of, decomposition_kind, decomposition_mapping, is_excluded}

-- a primary composite: a starter, not excluded, whose mapping is canonical and a pair of which the first is a starter
pub record IsPrimary (v : VersionData) (c : ℕ) : Type 0 where
  pub canonical : decomposition_kind v c ≡ Canonical
  pub first : ℕ
  pub second : ℕ
  pub pair : decomposition_mapping v c ≡ first ∷ second ∷ []
  pub starter : class_of v c ≡ 0
  pub first_starter : class_of v first ≡ 0
  pub included : is_excluded v c ≡ false

-- a primary composite with exactly this pair as its mapping
pub record IsCompositeOf (v : VersionData) (a b c : ℕ) : Type 0 where
  pub primary : IsPrimary v c
  pub mapping : decomposition_mapping v c ≡ a ∷ b ∷ []
