-- What a version with its foldings may not have: five kinds of faults, each at a code point.
use Rattle.std.specs.Prelude.{◌≡◌, ◌≢◌, ℕ, ◌<◌, ◌⊎◌, Bool, true, false, List, [], ◌∷◌, length}
use Rattle.std.specs.List.{Contains, list_all}
use Rattle.np_code_points.specs.declared.forms.Form.TheVariants.{Nfkd}
use Rattle.np_foldings.specs.declared.lowercases.Lowercase.{Lowercase}
use Rattle.np_versions.specs.Mappings.{IsFullDecomposition, is_final}
use Rattle.np_versions.specs.Versions.{is_assigned}
use Rattle.np_caseless.specs.Caseless.{IsCaseless}
use Rattle.np_caseless.specs.Folded.{FoldedVersion, folding_at, is_quiet}

-- it folds, and isn't assigned
pub record IsUnassignedFolded (v : FoldedVersion) (c : ℕ) : Type 0 where
  pub folds : is_quiet v.foldings c ≡ false
  pub lacks : is_assigned v.version c ≡ false

-- it folds to a list with an unassigned code point
pub record IsFoldedToUnassigned (v : FoldedVersion) (c : ℕ) : Type 0 where
  pub folds : is_quiet v.foldings c ≡ false
  pub lacks : list_all (is_assigned v.version) (folding_at v.foldings c) ≡ false

-- it folds, has no mapping of this kind, and some code point of the full decomposition of its folding folds
pub record IsFoldedAgainBy (v : FoldedVersion) (compat : Bool) (c : ℕ) : Type 0 where
  pub folds : is_quiet v.foldings c ≡ false
  pub final : is_final v.version compat c ≡ true
  pub full : List ℕ
  pub decomposes : IsFullDecomposition v.version compat (folding_at v.foldings c) full
  pub again : list_all (is_quiet v.foldings) full ≡ false

-- canonically, or where it has no mapping of either kind compatibly
abbrev pub IsFoldedAgain : FoldedVersion → ℕ → Type 0
IsFoldedAgain v c = IsFoldedAgainBy v false c ⊎ IsFoldedAgainBy v true c

-- the caseless NFKD list of it alone has more than 64 code points
pub record IsFoldedTooLong (v : FoldedVersion) (c : ℕ) : Type 0 where
  pub list : List ℕ
  pub caseless : IsCaseless v Nfkd (c ∷ []) list
  pub long : 64 < length list

-- it has another code point as its lowercase, which is assigned, and neither of the two folds
pub record IsNotFolded (v : FoldedVersion) (lowercases : List Lowercase) (c : ℕ) : Type 0 where
  pub lower : ℕ
  pub lowers : Contains lowercases (record { code = c; lower = lower })
  pub other : lower ≢ c
  pub assigned : is_assigned v.version lower ≡ true
  pub stays : is_quiet v.foldings c ≡ true
  pub lower_stays : is_quiet v.foldings lower ≡ true
