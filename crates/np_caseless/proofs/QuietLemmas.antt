-- A caseless list folds to itself, and is its own.
use Rattle.std.proofs.Common.{◌≡◌, ℕ, Bool, true, false, cond, List, [], ◌∷◌, ◌++◌, flat_map, refl, sym, ap, ◌∙◌}
use Rattle.std.specs.List.{list_all}
use Rattle.std.proofs.lemmas.Bool.{and_from, and_parts, cond-true, cond-false}
use Rattle.std.proofs.lemmas.Grind.{flat_map-append}
use Rattle.std.proofs.lemmas.List.{append-nil}
use Rattle.std.proofs.lemmas.Slice.Eq.{bytes_eq-Decides}
use Rattle.np_code_points.specs.Forms.{is_compat}
use Rattle.np_code_points.specs.declared.forms.Form.{Form}
use Rattle.np_code_points.specs.declared.forms.Form.TheVariants.{Nfd, Nfc, Nfkd, Nfkc}
use Rattle.np_foldings.specs.Foldings.{Folding}
use Rattle.np_forms.specs.Order.{is_ordered}
use Rattle.np_forms.specs.inside.NormalForms.{decomposed, ended, normal_form}
use Rattle.np_forms.proofs.FormLemmas.{all_final, is_ordered-decomposed, decomposed-final, decomposed-composed, normal_form-twice, IsNormalForm-value}
use Rattle.np_forms.proofs.OrderLemmas.{list_all-canonical_order}
use Rattle.np_ucd.specs.declared.rows.MapKind.{MapKind}
use Rattle.np_ucd.specs.declared.rows.MapKind.TheVariants.{Plain, Canonical, Compatibility}
use Rattle.np_versions.specs.Conditions.{IsSound}
use Rattle.np_versions.specs.Mappings.{counts, parts, is_final}
use Rattle.np_versions.specs.Versions.{VersionData, class_of, is_empty, decomposition_kind, decomposition_mapping}
use Rattle.np_versions.specs.inside.FullDecompositions.{full_of}
use Rattle.np_versions.proofs.MappingLemmas.{list_all-append, full_of-final, IsFullDecomposition-flat_map}
use Rattle.np_caseless.specs.Conditions.{FoldsOnce, IsSoundFolding}
use Rattle.np_caseless.specs.Folded.{FoldedVersion, folding_at, fold_all, is_quiet}
use Rattle.np_caseless.specs.Laws.{OwnKey}
use Rattle.np_caseless.specs.inside.Keys.{folded, caseless}
use Rattle.np_caseless.proofs.KeyLemmas.{caseless_is, IsCaseless-value}

-- What is quiet folds to itself.
pub quiet_folds : (fs : List Folding) (c : ℕ) → is_quiet fs c ≡ true → folding_at fs c ≡ c ∷ []
unfolding is_quiet
quiet_folds fs c h = (bytes_eq-Decides (folding_at fs c) (c ∷ [])).0 h

fold_flat : (fs : List Folding) (xs : List ℕ) → list_all (is_quiet fs) xs ≡ true → flat_map (folding_at fs) xs ≡ xs
fold_flat fs [] h = refl
fold_flat fs (x ∷ xs) h =
    let both = and_parts (is_quiet fs x) (list_all (is_quiet fs) xs) h in
    ap (λ ys. ys ++ flat_map (folding_at fs) xs) (quiet_folds fs x both.0) ∙ ap (λ ys. x ∷ ys) (fold_flat fs xs both.1)

pub fold_all-quiet : (fs : List Folding) (xs : List ℕ) → list_all (is_quiet fs) xs ≡ true → fold_all fs xs ≡ xs
unfolding fold_all
fold_all-quiet fs xs h = fold_flat fs xs h

-- What has no mapping of either kind has no canonical one.
kind_weaker : (kind : MapKind) → counts true kind ≡ false → counts false kind ≡ false
kind_weaker Plain h = refl
kind_weaker Canonical h = h
kind_weaker Compatibility h = refl

empty_either : (k : Bool) (xs : List ℕ) → is_empty xs ≡ true → is_empty (cond k xs []) ≡ true
empty_either true xs h = h
empty_either false xs h = refl

final_step : (v : VersionData) (c : ℕ) (k : Bool) → counts true (decomposition_kind v c) ≡ k → is_final v true c ≡ true → is_final v false c ≡ true
unfolding parts
final_step v c false e h = ap is_empty (cond-false _ (decomposition_mapping v c) [] (kind_weaker (decomposition_kind v c) e))
final_step v c true e h =
    let none : is_empty (decomposition_mapping v c) ≡ true = ap is_empty (sym (cond-true _ (decomposition_mapping v c) [] e)) ∙ h in
    empty_either (counts false (decomposition_kind v c)) (decomposition_mapping v c) none

pub final_weaker : (v : VersionData) (xs : List ℕ) → list_all (is_final v true) xs ≡ true → list_all (is_final v false) xs ≡ true
final_weaker v [] h = refl
final_weaker v (x ∷ xs) h =
    let both = and_parts (is_final v true x) (list_all (is_final v true) xs) h in
    and_from (is_final v false x) (list_all (is_final v false) xs) (final_step v x (counts true (decomposition_kind v x)) refl both.0) (final_weaker v xs both.1)

-- What comes of folding a form is quiet once it is decomposed again.
module _ (v : FoldedVersion) (sound : IsSound v.version) (compat : Bool) (once : FoldsOnce v compat) where
  abbrev quiet : ℕ → Bool
  quiet = is_quiet v.foldings

  abbrev Full : ℕ → List ℕ
  Full = full_of v.version compat

  quiet_one : (c : ℕ) (t : Bool) → is_quiet v.foldings c ≡ t → is_final v.version compat c ≡ true → list_all quiet (flat_map Full (folding_at v.foldings c)) ≡ true
  quiet_one c true e final =
      let same : flat_map Full (folding_at v.foldings c) ≡ c ∷ [] =
      ap (flat_map Full) (quiet_folds v.foldings c e) ∙ append-nil (Full c) ∙ full_of-final v.version compat sound.shallow c final in
      ap (list_all quiet) same ∙ and_from (quiet c) true e refl
  quiet_one c false e final =
      once c (flat_map Full (folding_at v.foldings c)) e final (IsFullDecomposition-flat_map v.version compat sound.shallow (folding_at v.foldings c))

  quiet_all : (ds : List ℕ) → list_all (is_final v.version compat) ds ≡ true → list_all quiet (flat_map Full (flat_map (folding_at v.foldings) ds)) ≡ true
  quiet_all [] h = refl
  quiet_all (d ∷ ds) h =
      let both = and_parts (is_final v.version compat d) (list_all (is_final v.version compat) ds) h in
      ap (list_all quiet) (flat_map-append Full (folding_at v.foldings d) (flat_map (folding_at v.foldings) ds))
      ∙ list_all-append quiet (flat_map Full (folding_at v.foldings d)) (flat_map Full (flat_map (folding_at v.foldings) ds))
      (quiet_one d (is_quiet v.foldings d) refl both.0) (quiet_all ds both.1)

  pub quiet_decomposed : (ds : List ℕ) → list_all (is_final v.version compat) ds ≡ true → list_all quiet (decomposed v.version compat (fold_all v.foldings ds)) ≡ true
  unfolding decomposed fold_all
  quiet_decomposed ds h = list_all-canonical_order (class_of v.version) quiet (flat_map Full (flat_map (folding_at v.foldings) ds)) (quiet_all ds h)

-- A form that composes or doesn't keeps what it is made of, by either decomposition.
module _ (v : VersionData) (sound : IsSound v) where
  decomposed-ended : (b compat : Bool) (ds : List ℕ) → list_all (is_final v compat) ds ≡ true → is_ordered (class_of v) ds ≡ true → decomposed v compat (ended v b ds) ≡ ds
  decomposed-ended true compat ds final ordered = decomposed-composed v sound compat ds final ordered
  decomposed-ended false compat ds final ordered = decomposed-final v sound compat ds final ordered

-- A caseless list is its own: b is what was normalized last.
module _ (v : FoldedVersion) (sound : IsSoundFolding v) where
  abbrev key : Bool → Bool → List ℕ → List ℕ
  key compat composing b = ended v.version composing (decomposed v.version compat b)

  -- canonically
  pub nfd_of : (composing : Bool) (b : List ℕ) → decomposed v.version false (key false composing b) ≡ decomposed v.version false b
  nfd_of composing b =
      decomposed-ended v.version sound.version composing false (decomposed v.version false b)
      (all_final v.version sound.version false b) (is_ordered-decomposed v.version sound.version false b)

  pub own_canonical : (composing : Bool) (ds : List ℕ) → list_all (is_final v.version false) ds ≡ true
      → key false composing (fold_all v.foldings (decomposed v.version false (key false composing (fold_all v.foldings ds)))) ≡ key false composing (fold_all v.foldings ds)
  own_canonical composing ds final =
      let b = fold_all v.foldings ds in
      let u = decomposed v.version false b in
      let quiet : fold_all v.foldings u ≡ u = fold_all-quiet v.foldings u (quiet_decomposed v sound.version false (sound.folds_once false) ds final) in
      ap (λ x. key false composing (fold_all v.foldings x)) (nfd_of composing b)
      ∙ ap (key false composing) quiet
      ∙ ap (ended v.version composing)
      (decomposed-final v.version sound.version false u (all_final v.version sound.version false b) (is_ordered-decomposed v.version sound.version false b))

  -- compatibly
  pub nfd_of_compatible : (composing : Bool) (b : List ℕ) → decomposed v.version false (key true composing b) ≡ decomposed v.version true b
  nfd_of_compatible composing b =
      decomposed-ended v.version sound.version composing false (decomposed v.version true b)
      (final_weaker v.version (decomposed v.version true b) (all_final v.version sound.version true b)) (is_ordered-decomposed v.version sound.version true b)

  pub own_compatible : (composing : Bool) (ds : List ℕ) → list_all (is_final v.version true) ds ≡ true
      → key true composing (fold_all v.foldings (decomposed v.version true (fold_all v.foldings (decomposed v.version false (key true composing (fold_all v.foldings ds))))))
      ≡ key true composing (fold_all v.foldings ds)
  own_compatible composing ds final =
      let b = fold_all v.foldings ds in
      let u = decomposed v.version true b in
      let quiet : fold_all v.foldings u ≡ u = fold_all-quiet v.foldings u (quiet_decomposed v sound.version true (sound.folds_once true) ds final) in
      let again : decomposed v.version true u ≡ u =
      decomposed-final v.version sound.version true u (all_final v.version sound.version true b) (is_ordered-decomposed v.version sound.version true b) in
      ap (λ x. key true composing (fold_all v.foldings (decomposed v.version true (fold_all v.foldings x)))) (nfd_of_compatible composing b)
      ∙ ap (λ x. key true composing (fold_all v.foldings (decomposed v.version true x))) quiet
      ∙ ap (λ x. key true composing (fold_all v.foldings x)) again
      ∙ ap (key true composing) quiet
      ∙ ap (ended v.version composing) again

  pub own_of : (form : Form) (xs : List ℕ) → caseless v form (caseless v form xs) ≡ caseless v form xs
  unfolding caseless normal_form
  own_of Nfd xs = own_canonical false (decomposed v.version false xs) (all_final v.version sound.version false xs)
  own_of Nfc xs = own_canonical true (decomposed v.version false xs) (all_final v.version sound.version false xs)
  own_of Nfkd xs =
      let inner = fold_all v.foldings (decomposed v.version false xs) in
      own_compatible false (decomposed v.version true inner) (all_final v.version sound.version true inner)
  own_of Nfkc xs =
      let inner = fold_all v.foldings (decomposed v.version false xs) in
      own_compatible true (decomposed v.version true inner) (all_final v.version sound.version true inner)

  form_of : (form : Form) (xs : List ℕ) → caseless v form xs ≡ normal_form v.version form (caseless v form xs)
  unfolding caseless
  form_of form xs = sym (normal_form-twice v.version sound.version form (folded v (is_compat form) xs))

pub own : OwnKey
own v form xs ks sound h =
    let is = caseless_is v sound.version form xs ks h in (
      IsNormalForm-value v.version sound.version form ks ks (is ∙ form_of v sound form xs ∙ ap (normal_form v.version form) (sym is)),
      IsCaseless-value v sound.version form ks ks (is ∙ sym (own_of v sound form xs) ∙ ap (caseless v form) (sym is)),
    )
