-- A caseless list under a version is its own under each version that it extends.
use Rattle.std.proofs.Common.{◌≡◌, ℕ, ◌&&◌, Bool, true, false, List, [], ◌∷◌, flat_map, refl, sym, ap, ◌∙◌, inl, inr}
use Rattle.std.specs.List.{list_all}
use Rattle.std.proofs.lemmas.Bool.{and_from, and_parts, both_ways, cases_Bool, true_from_ne_false}
use Rattle.std.proofs.lemmas.List.{append-nil}
use Rattle.std.proofs.lemmas.List.Folds.{list_all-append}
use Rattle.np_chain.proofs.BackwardLemmas.{backward}
use Rattle.np_chain.proofs.StabilityLemmas.{assigned-normal_form, decomposed-same}
use Rattle.np_code_points.specs.Forms.{is_compat}
use Rattle.np_code_points.specs.declared.forms.Form.{Form}
use Rattle.np_code_points.specs.declared.forms.Form.TheVariants.{Nfd, Nfc, Nfkd, Nfkc}
use Rattle.np_forms.specs.Assigned.{IsAssigned}
use Rattle.np_forms.specs.inside.CanonicalOrder.{canonical_order}
use Rattle.np_forms.specs.inside.NormalForms.{decomposed, ended, normal_form}
use Rattle.np_forms.proofs.FormLemmas.{IsNormalForm-normal_form, normal_form_is, all_final, is_ordered-decomposed, decomposed-final}
use Rattle.np_forms.proofs.OrderLemmas.{canonical_order-keeps}
use Rattle.np_versions.specs.Mappings.{is_final}
use Rattle.np_versions.specs.Versions.{VersionData, class_of, is_assigned, is_empty}
use Rattle.np_versions.specs.inside.FullDecompositions.{full_of}
use Rattle.np_versions.proofs.CompositeLemmas.{mapped-assigned}
use Rattle.np_versions.proofs.MappingLemmas.{full_of-final, parts-cases}
use Rattle.np_caseless.specs.Conditions.{IsSoundFolding}
use Rattle.np_caseless.specs.Extension.{ExtendsFolded, LeavesKeys}
use Rattle.np_caseless.specs.Folded.{FoldedVersion, fold_all, is_quiet}
use Rattle.np_caseless.specs.Laws.{Backward}
use Rattle.np_caseless.specs.inside.Keys.{caseless, folded}
use Rattle.np_caseless.proofs.KeyLemmas.{IsCaseless-value, caseless_is}
use Rattle.np_caseless.proofs.ListedLemmas.{quiet_from}
use Rattle.np_caseless.proofs.QuietLemmas.{fold_all-quiet, nfd_of, nfd_of_compatible, quiet_decomposed, quiet_folds}
use Rattle.np_caseless.proofs.StabilityLemmas.{fold_all-assigned}

-- ---- tests of lists

and_swap : (x y z : Bool) → (x && (y && z)) ≡ (y && (x && z))
and_swap true y z = refl
and_swap false true z = refl
and_swap false false z = refl

-- ordering keeps what holds of each code point, and adds nothing
pub order_all : (ccc : ℕ → ℕ) (p : ℕ → Bool) (cs : List ℕ) → list_all p (canonical_order ccc cs) ≡ list_all p cs
order_all ccc p cs =
    canonical_order-keeps ccc (list_all p)
    (λ us a b vs pair.
    list_all-append p us (a ∷ b ∷ vs) ∙ ap (λ t. list_all p us && t) (and_swap (p a) (p b) (list_all p vs))
    ∙ sym (list_all-append p us (b ∷ a ∷ vs)))
    cs

nfd_all : (v : VersionData) (p : ℕ → Bool) (xs : List ℕ) → list_all p (decomposed v false xs) ≡ list_all p (flat_map (full_of v false) xs)
unfolding decomposed
nfd_all v p xs = order_all (class_of v) p (flat_map (full_of v false) xs)

nfd_one : (v : VersionData) (p : ℕ → Bool) (c : ℕ) → list_all p (decomposed v false (c ∷ [])) ≡ list_all p (full_of v false c)
nfd_one v p c = nfd_all v p (c ∷ []) ∙ ap (list_all p) (append-nil (full_of v false c))

-- ---- what is quiet under the later version is quiet under the earlier one

module _ (a b : FoldedVersion) (of_a : IsSoundFolding a) (of_b : IsSoundFolding b) (ext : ExtendsFolded a b) where
  abbrev quiet_a : ℕ → Bool
  quiet_a = is_quiet a.foldings

  abbrev quiet_b : ℕ → Bool
  quiet_b = is_quiet b.foldings

  -- what the earlier version lacks doesn't fold there
  quiet_lacking : (c : ℕ) → is_assigned a.version c ≡ false → is_quiet a.foldings c ≡ true
  quiet_lacking c lacks =
      elim (cases_Bool (is_quiet a.foldings c)) [
        | inl quiet ↦ quiet
        | inr folds ↦ absurd (both_ways (is_assigned a.version c) lacks (of_a.folds_assigned c folds))
      ]

  quiet_back : (c : ℕ) → is_quiet b.foldings c ≡ true → is_quiet a.foldings c ≡ true
  quiet_back c quiet =
      elim (cases_Bool (is_assigned a.version c)) [
        | inl has ↦ quiet_from a.foldings c (sym (ext.folds c has) ∙ quiet_folds b.foldings c quiet)
        | inr lacks ↦ quiet_lacking c lacks
      ]

  all_back : (cs : List ℕ) → list_all quiet_b cs ≡ true → list_all quiet_a cs ≡ true
  all_back [] all = refl
  all_back (c ∷ cs) all =
      let both = and_parts (quiet_b c) (list_all quiet_b cs) all in and_from (quiet_a c) (list_all quiet_a cs) (quiet_back c both.0) (all_back cs both.1)

  lacking_final : (c : ℕ) → is_assigned a.version c ≡ false → is_final a.version false c ≡ true
  lacking_final c lacks =
      parts-cases a.version false (λ l. is_empty l ≡ true) refl c
      (true_from_ne_false _ (λ some. both_ways (is_assigned a.version c) lacks (mapped-assigned a.version c some)))

  full_back : (c : ℕ) → list_all quiet_b (full_of b.version false c) ≡ true → list_all quiet_a (full_of a.version false c) ≡ true
  full_back c all =
      elim (cases_Bool (is_assigned a.version c)) [
        | inl has ↦
            let same = decomposed-same a.version b.version of_a.version of_b.version ext.extends false (c ∷ []) (and_from (is_assigned a.version c) true has refl) in
            sym (nfd_one a.version quiet_a c) ∙ ap (list_all quiet_a) same ∙ all_back (decomposed b.version false (c ∷ [])) (nfd_one b.version quiet_b c ∙ all)
        | inr lacks ↦
            ap (list_all quiet_a) (full_of-final a.version false of_a.version.shallow c (lacking_final c lacks))
            ∙ and_from (quiet_a c) true (quiet_lacking c lacks) refl
      ]

  flat_back : (ks : List ℕ) → list_all quiet_b (flat_map (full_of b.version false) ks) ≡ true → list_all quiet_a (flat_map (full_of a.version false) ks) ≡ true
  flat_back [] all = refl
  flat_back (k ∷ ks) all =
      let both = and_parts (list_all quiet_b (full_of b.version false k)) (list_all quiet_b (flat_map (full_of b.version false) ks))
      (sym (list_all-append quiet_b (full_of b.version false k) (flat_map (full_of b.version false) ks)) ∙ all) in
      list_all-append quiet_a (full_of a.version false k) (flat_map (full_of a.version false) ks)
      ∙ and_from _ _ (full_back k both.0) (flat_back ks both.1)

  nfd_back : (ks : List ℕ) → list_all quiet_b (decomposed b.version false ks) ≡ true → list_all quiet_a (decomposed a.version false ks) ≡ true
  nfd_back ks all = nfd_all a.version quiet_a ks ∙ flat_back ks (sym (nfd_all b.version quiet_b ks) ∙ all)

  -- ---- a form under the earlier version whose NFD form is quiet there is its own caseless list

  canonical_own : (composing : Bool) (ks : List ℕ) → list_all quiet_a (decomposed a.version false ks) ≡ true → ended a.version composing (decomposed a.version false ks) ≡ ks
      → ended a.version composing (decomposed a.version false (fold_all a.foldings (decomposed a.version false ks))) ≡ ks
  canonical_own composing ks quiet own =
      let w = decomposed a.version false ks in
      ap (λ x. ended a.version composing (decomposed a.version false x)) (fold_all-quiet a.foldings w quiet)
      ∙ ap (ended a.version composing)
      (decomposed-final a.version of_a.version false w (all_final a.version of_a.version false ks) (is_ordered-decomposed a.version of_a.version false ks))
      ∙ own

  compatible_own : (composing : Bool) (ks : List ℕ) → list_all quiet_a (decomposed a.version false ks) ≡ true → ended a.version composing (decomposed a.version true ks) ≡ ks
      → ended a.version composing (decomposed a.version true (fold_all a.foldings (decomposed a.version true (fold_all a.foldings (decomposed a.version false ks))))) ≡ ks
  compatible_own composing ks quiet own =
      let w = decomposed a.version true ks in
      let same : decomposed a.version false ks ≡ w = ap (decomposed a.version false) (sym own) ∙ nfd_of_compatible a of_a composing ks in
      let stays : fold_all a.foldings w ≡ w = fold_all-quiet a.foldings w (ap (list_all quiet_a) (sym same) ∙ quiet) in
      let again : decomposed a.version true w ≡ w =
      decomposed-final a.version of_a.version true w (all_final a.version of_a.version true ks) (is_ordered-decomposed a.version of_a.version true ks) in
      ap (λ x. ended a.version composing (decomposed a.version true (fold_all a.foldings (decomposed a.version true (fold_all a.foldings x))))) same
      ∙ ap (λ x. ended a.version composing (decomposed a.version true (fold_all a.foldings (decomposed a.version true x)))) stays
      ∙ ap (λ x. ended a.version composing (decomposed a.version true (fold_all a.foldings x))) again
      ∙ ap (λ x. ended a.version composing (decomposed a.version true x)) stays
      ∙ ap (ended a.version composing) again
      ∙ own

  -- ---- the caseless list under the later version

  -- what is normalized last is assigned there
  folded_assigned : (compat : Bool) (xs : List ℕ) → IsAssigned b.version xs → IsAssigned b.version (folded b compat xs)
  folded_assigned false xs all = fold_all-assigned b of_b (normal_form b.version Nfd xs) (assigned-normal_form b.version of_b.version Nfd xs all)
  folded_assigned true xs all =
      let inner = fold_all-assigned b of_b (normal_form b.version Nfd xs) (assigned-normal_form b.version of_b.version Nfd xs all) in
      fold_all-assigned b of_b (normal_form b.version Nfkd (fold_all b.foldings (normal_form b.version Nfd xs)))
      (assigned-normal_form b.version of_b.version Nfkd (fold_all b.foldings (normal_form b.version Nfd xs)) inner)

  -- so it is its own form under the earlier one
  own_form : (form : Form) (xs : List ℕ) → IsAssigned b.version xs → normal_form a.version form (caseless b form xs) ≡ caseless b form xs
  unfolding caseless
  own_form form xs all =
      let last = folded b (is_compat form) xs in
      sym (normal_form_is a.version of_a.version form (normal_form b.version form last) (normal_form b.version form last)
      (backward a.version b.version form last (normal_form b.version form last) of_a.version of_b.version ext.extends (folded_assigned (is_compat form) xs all)
      (IsNormalForm-normal_form b.version of_b.version form last)))

  -- its NFD form is quiet there
  canonical_quiet : (composing : Bool) (ds : List ℕ) → list_all (is_final b.version false) ds ≡ true
      → list_all quiet_b (decomposed b.version false (ended b.version composing (decomposed b.version false (fold_all b.foldings ds)))) ≡ true
  canonical_quiet composing ds final =
      ap (list_all quiet_b) (nfd_of b of_b composing (fold_all b.foldings ds)) ∙ quiet_decomposed b of_b.version false (of_b.folds_once false) ds final

  compatible_quiet : (composing : Bool) (ds : List ℕ) → list_all (is_final b.version true) ds ≡ true
      → list_all quiet_b (decomposed b.version false (ended b.version composing (decomposed b.version true (fold_all b.foldings ds)))) ≡ true
  compatible_quiet composing ds final =
      ap (list_all quiet_b) (nfd_of_compatible b of_b composing (fold_all b.foldings ds)) ∙ quiet_decomposed b of_b.version true (of_b.folds_once true) ds final

  quiet_key : (form : Form) (xs : List ℕ) → list_all quiet_b (decomposed b.version false (caseless b form xs)) ≡ true
  unfolding caseless normal_form
  quiet_key Nfd xs = canonical_quiet false (decomposed b.version false xs) (all_final b.version of_b.version false xs)
  quiet_key Nfc xs = canonical_quiet true (decomposed b.version false xs) (all_final b.version of_b.version false xs)
  quiet_key Nfkd xs =
      let inner = fold_all b.foldings (decomposed b.version false xs) in
      compatible_quiet false (decomposed b.version true inner) (all_final b.version of_b.version true inner)
  quiet_key Nfkc xs =
      let inner = fold_all b.foldings (decomposed b.version false xs) in
      compatible_quiet true (decomposed b.version true inner) (all_final b.version of_b.version true inner)

  own_of_form : (form : Form) (ks : List ℕ) → list_all quiet_a (decomposed a.version false ks) ≡ true → normal_form a.version form ks ≡ ks → caseless a form ks ≡ ks
  unfolding caseless normal_form
  own_of_form Nfd ks quiet own = canonical_own false ks quiet own
  own_of_form Nfc ks quiet own = canonical_own true ks quiet own
  own_of_form Nfkd ks quiet own = compatible_own false ks quiet own
  own_of_form Nfkc ks quiet own = compatible_own true ks quiet own

  pub left : LeavesKeys a b
  left form xs ks all is =
      let same = caseless_is b of_b.version form xs ks is in
      let key = caseless b form xs in
      let own = own_of_form form key (nfd_back key (quiet_key form xs)) (own_form form xs all) in
      IsCaseless-value a of_a.version form ks ks (same ∙ sym own ∙ ap (caseless a form) (sym same))

pub left_behind : Backward
left_behind a b form xs ks of_a of_b ext all is = left a b of_a of_b ext form xs ks all is
