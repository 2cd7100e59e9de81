-- The normalization forms (The Unicode Standard, D118 to D121), and equivalence (D67, D70).
use Rattle.std.specs.Prelude.{◌≡◌, ℕ, Bool, true, false, List}
use Rattle.np_code_points.specs.Forms.{is_compat, composes}
use Rattle.np_forms.specs.Composition.{IsComposed}
use Rattle.np_versions.specs.Mappings.{IsFullDecomposition}
use Rattle.np_forms.specs.Order.{IsOrderedForm}
use Rattle.np_versions.specs.Versions.{VersionData, class_of}
use Rattle.np_code_points.specs.declared.forms.Form.{Form}

-- the full decomposition in canonical order (D65 or D68, then D109)
pub record IsDecomposed (v : VersionData) (compat : Bool) (xs ys : List ℕ) : Type 0 where
  pub full : List ℕ
  pub decomposes : IsFullDecomposition v compat xs full
  pub orders : IsOrderedForm (class_of v) full ys

-- a form that composes ends with the composition, another as it is
abbrev pub EndsAs : VersionData → Bool → List ℕ → List ℕ → Type 0
EndsAs v true xs ys = IsComposed v xs ys
EndsAs v false xs ys = ys ≡ xs

-- full decomposition, then its ordered form, and for NFC and NFKC the composition of that
pub record IsNormalForm (v : VersionData) (form : Form) (xs ys : List ℕ) : Type 0 where
  pub decomposed : List ℕ
  pub first : IsDecomposed v (is_compat form) xs decomposed
  pub last : EndsAs v (composes form) decomposed ys

-- the ordered full decompositions are one list: canonical equivalents (D70), or where compat compatible ones (D67)
pub record IsEquivalent (v : VersionData) (compat : Bool) (xs ys : List ℕ) : Type 0 where
  pub decomposed : List ℕ
  pub left : IsDecomposed v compat xs decomposed
  pub right : IsDecomposed v compat ys decomposed
