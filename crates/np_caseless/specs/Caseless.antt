-- Caseless lists and caseless matches (The Unicode Standard, D145 and D146).
use Rattle.std.specs.Prelude.{◌≡◌, ℕ, Bool, true, false, List}
use Rattle.np_code_points.specs.Forms.{is_compat}
use Rattle.np_code_points.specs.declared.forms.Form.{Form}
use Rattle.np_code_points.specs.declared.forms.Form.TheVariants.{Nfd, Nfkd}
use Rattle.np_forms.specs.Forms.{IsNormalForm, IsEquivalent}
use Rattle.np_caseless.specs.Folded.{FoldedVersion, fold_all}

-- what is normalized last: the folding of the NFD form (D145); or where compat, which folds twice, the folding of the NFKD form of that (D146)
abbrev pub IsFolded : FoldedVersion → Bool → List ℕ → List ℕ → Type 0
IsFolded v false xs zs = (nfd : List ℕ) × IsNormalForm v.version Nfd xs nfd × (zs ≡ fold_all v.foldings nfd)
IsFolded v true xs zs =
    (nfd : List ℕ) × (nfkd : List ℕ) × IsNormalForm v.version Nfd xs nfd × IsNormalForm v.version Nfkd (fold_all v.foldings nfd) nfkd
    × (zs ≡ fold_all v.foldings nfkd)

-- the caseless list of a string: its normal form
pub record IsCaseless (v : FoldedVersion) (form : Form) (xs ys : List ℕ) : Type 0 where
  pub folded : List ℕ
  pub folds : IsFolded v (is_compat form) xs folded
  pub normal : IsNormalForm v.version form folded ys

-- two strings match caselessly, canonically (D145) or where compat compatibly (D146): what is normalized last is equivalent
pub record MatchCaselessly (v : FoldedVersion) (compat : Bool) (xs ys : List ℕ) : Type 0 where
  pub left : List ℕ
  pub right : List ℕ
  pub left_folds : IsFolded v compat xs left
  pub right_folds : IsFolded v compat ys right
  pub equivalent : IsEquivalent v.version compat left right
