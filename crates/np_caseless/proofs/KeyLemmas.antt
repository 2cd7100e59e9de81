-- The relation of the caseless list and the function are one; equal lists are matches.
use Rattle.std.proofs.Common.{◌≡◌, ℕ, ◌↔◌, Bool, true, false, List, Result, Ok, Err, IfOk, IsTrue, refl, sym, ap, subst, ◌∙◌}
use Rattle.np_code_points.specs.Forms.{is_compat}
use Rattle.np_code_points.specs.declared.forms.Form.{Form}
use Rattle.np_code_points.specs.declared.forms.Form.TheVariants.{Nfd, Nfkd}
use Rattle.np_forms.specs.Forms.{IsEquivalent}
use Rattle.np_forms.specs.inside.NormalForms.{normal_form}
use Rattle.np_forms.proofs.FormLemmas.{IsNormalForm-normal_form, normal_form_is, same_forms}
use Rattle.np_versions.specs.Conditions.{IsSound}
use Rattle.np_caseless.specs.Caseless.{IsFolded, IsCaseless, MatchCaselessly}
use Rattle.np_caseless.specs.Folded.{FoldedVersion, fold_all}
use Rattle.np_caseless.specs.Laws.{OneCaselessKey, OneKeyIsOneMatch, EquivalentsHaveOneKey}
use Rattle.np_caseless.specs.inside.Keys.{folded, caseless}

module _ (v : FoldedVersion) (sound : IsSound v.version) where
  pub IsFolded-folded : (compat : Bool) (xs : List ℕ) → IsFolded v compat xs (folded v compat xs)
  IsFolded-folded false xs = (normal_form v.version Nfd xs, IsNormalForm-normal_form v.version sound Nfd xs, refl)
  IsFolded-folded true xs =
      let nfd = normal_form v.version Nfd xs in (
        nfd,
        normal_form v.version Nfkd (fold_all v.foldings nfd),
        IsNormalForm-normal_form v.version sound Nfd xs,
        IsNormalForm-normal_form v.version sound Nfkd (fold_all v.foldings nfd),
        refl,
      )

  pub folded_is : (compat : Bool) (xs zs : List ℕ) → IsFolded v compat xs zs → zs ≡ folded v compat xs
  folded_is false xs zs h = h.2 ∙ ap (fold_all v.foldings) (normal_form_is v.version sound Nfd xs h.0 h.1)
  folded_is true xs zs h =
      h.4
      ∙ ap (fold_all v.foldings) (normal_form_is v.version sound Nfkd (fold_all v.foldings h.0) h.1 h.3)
      ∙ ap (λ ys. fold_all v.foldings (normal_form v.version Nfkd (fold_all v.foldings ys))) (normal_form_is v.version sound Nfd xs h.0 h.2)

  pub IsCaseless-caseless : (form : Form) (xs : List ℕ) → IsCaseless v form xs (caseless v form xs)
  unfolding caseless
  IsCaseless-caseless form xs = record {
    folded = folded v (is_compat form) xs;
    folds = IsFolded-folded (is_compat form) xs;
    normal = IsNormalForm-normal_form v.version sound form (folded v (is_compat form) xs);
  }

  pub caseless_is : (form : Form) (xs ys : List ℕ) → IsCaseless v form xs ys → ys ≡ caseless v form xs
  unfolding caseless
  caseless_is form xs ys h =
      normal_form_is v.version sound form h.folded ys h.normal ∙ ap (normal_form v.version form) (folded_is (is_compat form) xs h.folded h.folds)

  pub IsCaseless-value : (form : Form) (xs ys : List ℕ) → ys ≡ caseless v form xs → IsCaseless v form xs ys
  IsCaseless-value form xs ys e = subst (IsCaseless v form xs) (sym e) (IsCaseless-caseless form xs)

  same_folded : (compat : Bool) (xs zs ws : List ℕ) → IsFolded v compat xs zs → IsFolded v compat xs ws → zs ≡ ws
  same_folded compat xs zs ws h k = folded_is compat xs zs h ∙ sym (folded_is compat xs ws k)

  -- what tells whether two lists are equivalent that were folded tells whether the strings match
  told : (P : Type 0) (compat : Bool) (xs ys left right : List ℕ) → IsFolded v compat xs left → IsFolded v compat ys right → (P ↔ IsEquivalent v.version compat left right) → P ↔ MatchCaselessly v compat xs ys
  told P compat xs ys left right of_left of_right both = (
    λ yes. record { left = left; right = right; left_folds = of_left; right_folds = of_right; equivalent = both.0 yes },
    λ match'. both.1 (
        subst (λ zs. IsEquivalent v.version compat zs right) (same_folded compat xs match'.left left match'.left_folds of_left)
        (subst (IsEquivalent v.version compat match'.left) (same_folded compat ys match'.right right match'.right_folds of_right) match'.equivalent)
        ),
  )

  -- equal lists are matches, and matches have equal lists
  one_match_of : (form : Form) (xs ys ks ls : List ℕ) → IsCaseless v form xs ks → IsCaseless v form ys ls → (ks ≡ ls) ↔ MatchCaselessly v (is_compat form) xs ys
  one_match_of form xs ys ks ls k l =
      told (ks ≡ ls) (is_compat form) xs ys k.folded l.folded k.folds l.folds (same_forms v.version form k.folded l.folded ks ls sound k.normal l.normal)

  pub match_told : {E : Type 0} (compat : Bool) (xs ys left right : List ℕ) (r : Result Bool E) → IsFolded v compat xs left → IsFolded v compat ys right → IfOk r (λ b. IsTrue b ↔ IsEquivalent v.version compat left right) → IfOk r (λ b. IsTrue b ↔ MatchCaselessly v compat xs ys)
  match_told compat xs ys left right (Ok b) of_left of_right h = told (IsTrue b) compat xs ys left right of_left of_right h
  match_told compat xs ys left right (Err e) of_left of_right h = tt

  -- what comes of the NFD form is the same where the NFD forms are
  folded_alike : (compat : Bool) (xs ys : List ℕ) → normal_form v.version Nfd xs ≡ normal_form v.version Nfd ys → folded v compat xs ≡ folded v compat ys
  folded_alike false xs ys e = ap (fold_all v.foldings) e
  folded_alike true xs ys e = ap (λ zs. fold_all v.foldings (normal_form v.version Nfkd (fold_all v.foldings zs))) e

  alike : (form : Form) (xs ys : List ℕ) → IsEquivalent v.version false xs ys → caseless v form xs ≡ caseless v form ys
  unfolding caseless
  alike form xs ys h =
      let nfd = (same_forms v.version Nfd xs ys (normal_form v.version Nfd xs) (normal_form v.version Nfd ys) sound
      (IsNormalForm-normal_form v.version sound Nfd xs) (IsNormalForm-normal_form v.version sound Nfd ys)).1 h in
      ap (normal_form v.version form) (folded_alike (is_compat form) xs ys nfd)

pub one_key : OneCaselessKey
one_key v form xs sound = (caseless v form xs, IsCaseless-caseless v sound form xs, caseless_is v sound form xs)

pub one_match : OneKeyIsOneMatch
one_match v form xs ys ks ls sound k l = one_match_of v sound form xs ys ks ls k l

pub equivalents : EquivalentsHaveOneKey
equivalents v form xs ys ks ls sound h k l =
    caseless_is v sound form xs ks k ∙ alike v sound form xs ys h ∙ sym (caseless_is v sound form ys ls l)
