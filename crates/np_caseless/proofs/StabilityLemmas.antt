-- A caseless list stays the same under each later version.
use Rattle.std.proofs.Common.{◌≡◌, ℕ, Bool, true, false, List, [], ◌∷◌, ◌++◌, flat_map, refl, sym, ap, subst, ◌∙◌}
use Rattle.std.specs.List.{list_all}
use Rattle.std.proofs.lemmas.Bool.{and_from, and_parts}
use Rattle.np_chain.proofs.StabilityLemmas.{stability, transitivity}
use Rattle.np_code_points.specs.Forms.{is_compat}
use Rattle.np_code_points.specs.declared.forms.Form.{Form}
use Rattle.np_code_points.specs.declared.forms.Form.TheVariants.{Nfd, Nfkd}
use Rattle.np_forms.specs.Assigned.{IsAssigned}
use Rattle.np_forms.specs.Forms.{IsNormalForm}
use Rattle.np_versions.specs.Versions.{is_assigned}
use Rattle.np_versions.proofs.MappingLemmas.{list_all-append}
use Rattle.np_caseless.specs.Caseless.{IsFolded, IsCaseless}
use Rattle.np_caseless.specs.Conditions.{IsSoundFolding}
use Rattle.np_caseless.specs.Extension.{ExtendsFolded}
use Rattle.np_caseless.specs.Folded.{FoldedVersion, folding_at, fold_all, is_quiet}
use Rattle.np_caseless.specs.Laws.{Stability, AlongChains}
use Rattle.np_caseless.proofs.QuietLemmas.{quiet_folds}

-- What an assigned code point folds to is assigned.
module _ (a : FoldedVersion) (sound : IsSoundFolding a) where
  folds_assigned : (c : ℕ) (t : Bool) → is_quiet a.foldings c ≡ t → is_assigned a.version c ≡ true → list_all (is_assigned a.version) (folding_at a.foldings c) ≡ true
  folds_assigned c true e h = ap (list_all (is_assigned a.version)) (quiet_folds a.foldings c e) ∙ and_from (is_assigned a.version c) true h refl
  folds_assigned c false e h = sound.folds_to_assigned c e

  fold_flat-assigned : (xs : List ℕ) → list_all (is_assigned a.version) xs ≡ true → list_all (is_assigned a.version) (flat_map (folding_at a.foldings) xs) ≡ true
  fold_flat-assigned [] h = refl
  fold_flat-assigned (x ∷ xs) h =
      let both = and_parts (is_assigned a.version x) (list_all (is_assigned a.version) xs) h in
      list_all-append (is_assigned a.version) (folding_at a.foldings x) (flat_map (folding_at a.foldings) xs)
      (folds_assigned x (is_quiet a.foldings x) refl both.0) (fold_flat-assigned xs both.1)

  pub fold_all-assigned : (xs : List ℕ) → IsAssigned a.version xs → IsAssigned a.version (fold_all a.foldings xs)
  unfolding fold_all
  fold_all-assigned xs h = fold_flat-assigned xs h

-- It folds to the same under both.
module _ (a b : FoldedVersion) (extends : ExtendsFolded a b) where
  fold_flat-same : (xs : List ℕ) → list_all (is_assigned a.version) xs ≡ true → flat_map (folding_at b.foldings) xs ≡ flat_map (folding_at a.foldings) xs
  fold_flat-same [] h = refl
  fold_flat-same (x ∷ xs) h =
      let both = and_parts (is_assigned a.version x) (list_all (is_assigned a.version) xs) h in
      ap (λ ys. ys ++ flat_map (folding_at b.foldings) xs) (extends.folds x both.0) ∙ ap (λ ys. folding_at a.foldings x ++ ys) (fold_flat-same xs both.1)

  fold_all-same : (xs : List ℕ) → IsAssigned a.version xs → fold_all b.foldings xs ≡ fold_all a.foldings xs
  unfolding fold_all
  fold_all-same xs h = fold_flat-same xs h

module _ (a b : FoldedVersion) (of_a : IsSoundFolding a) (of_b : IsSoundFolding b) (extends : ExtendsFolded a b) where
  form_stays : (form : Form) (xs ys : List ℕ) → IsAssigned a.version xs → IsNormalForm a.version form xs ys → IsNormalForm b.version form xs ys × IsAssigned a.version ys
  form_stays form xs ys h is =
      let s = stability a.version b.version form xs ys of_a.version of_b.version extends.extends h is in (s.0, s.1)

  folded_stays : (compat : Bool) (xs zs : List ℕ) → IsAssigned a.version xs → IsFolded a compat xs zs → IsFolded b compat xs zs × IsAssigned a.version zs
  folded_stays false xs zs h is =
      let nfd = form_stays Nfd xs is.0 h is.1 in (
        (is.0, nfd.0, is.2 ∙ sym (fold_all-same a b extends is.0 nfd.1)),
        subst (IsAssigned a.version) (sym is.2) (fold_all-assigned a of_a is.0 nfd.1),
      )
  folded_stays true xs zs h is =
      let nfd = form_stays Nfd xs is.0 h is.2 in
      let inner = fold_all-assigned a of_a is.0 nfd.1 in
      let nfkd = form_stays Nfkd (fold_all a.foldings is.0) is.1 inner is.3 in (
        (
          is.0,
          is.1,
          nfd.0,
          subst (λ ys. IsNormalForm b.version Nfkd ys is.1) (sym (fold_all-same a b extends is.0 nfd.1)) nfkd.0,
          is.4 ∙ sym (fold_all-same a b extends is.1 nfkd.1),
        ),
        subst (IsAssigned a.version) (sym is.4) (fold_all-assigned a of_a is.1 nfkd.1),
      )

  pub key_stays : (form : Form) (xs ks : List ℕ) → IsAssigned a.version xs → IsCaseless a form xs ks → IsCaseless b form xs ks × IsAssigned a.version ks
  key_stays form xs ks h is =
      let folds = folded_stays (is_compat form) xs is.folded h is.folds in
      let normal = form_stays form is.folded ks folds.1 is.normal in
      (record { folded = is.folded; folds = folds.0; normal = normal.0 }, normal.1)

pub key_stability : Stability
key_stability a b form xs ks of_a of_b extends h is = key_stays a b of_a of_b extends form xs ks h is

pub along_chains : AlongChains
along_chains a b c ab bc = record {
  extends = transitivity a.version b.version c.version ab.extends bc.extends;
  folds = λ x h. bc.folds x (ab.extends.keeps x h).assigned ∙ ab.folds x h;
}
