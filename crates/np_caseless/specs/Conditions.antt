-- What holds of each version whose folding was taken.
use Rattle.std.specs.Prelude.{◌≡◌, ℕ, ◌≤◌, Bool, true, false, List, [], ◌∷◌, length}
use Rattle.std.specs.List.{list_all}
use Rattle.np_code_points.specs.declared.forms.Form.TheVariants.{Nfkd}
use Rattle.np_foldings.specs.Foldings.{AreFoldings}
use Rattle.np_versions.specs.Conditions.{IsSound}
use Rattle.np_versions.specs.Mappings.{IsFullDecomposition, is_final}
use Rattle.np_versions.specs.Versions.{is_assigned}
use Rattle.np_caseless.specs.Caseless.{IsCaseless}
use Rattle.np_caseless.specs.Folded.{FoldedVersion, folding_at, is_quiet}

-- of a code point that folds and has no mapping of this kind, the full decomposition of the folding doesn't fold again
abbrev pub FoldsOnce : FoldedVersion → Bool → Type 0
FoldsOnce v compat =
    (c : ℕ) (full : List ℕ) → is_quiet v.foldings c ≡ false → is_final v.version compat c ≡ true →
    IsFullDecomposition v.version compat (folding_at v.foldings c) full → list_all (is_quiet v.foldings) full ≡ true

pub record IsSoundFolding (v : FoldedVersion) : Type 0 where
  -- the version meets its own conditions
  pub version : IsSound v.version
  -- the foldings are those of a file
  pub foldings : AreFoldings v.foldings
  -- what folds is assigned, and folds to what is assigned
  pub folds_assigned : (c : ℕ) → is_quiet v.foldings c ≡ false → is_assigned v.version c ≡ true
  pub folds_to_assigned : (c : ℕ) → is_quiet v.foldings c ≡ false → list_all (is_assigned v.version) (folding_at v.foldings c) ≡ true
  pub folds_once : (compat : Bool) → FoldsOnce v compat
  -- the caseless NFKD list of a code point is at most 64 code points long
  pub short : (c : ℕ) (ys : List ℕ) → IsCaseless v Nfkd (c ∷ []) ys → length ys ≤ 64
