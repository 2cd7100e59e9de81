-- The relation of the normal form and the function are one; what a form keeps, and how long it is.
use Rattle.std.proofs.Common.{◌≡◌, ℕ, Bool, true, false, List, flat_map, refl, ap, ◌∙◌, ◌↔◌, sym, subst, ◌≢◌, zero, suc, ◌+◌, ◌*◌, ◌≤◌, [], ◌∷◌, ◌++◌, length}
use Rattle.std.proofs.Common.{Option, chars, IsUtf8, encode_utf8, encode_utf8_all, inl, inr, arith, length-append, append-nil}
use Rattle.np_forms.proofs.Words.{VersionData, class_of, full_of, canonical_order, IsSound, Form, is_compat, composes, IsDecomposed, EndsAs, IsNormalForm}
use Rattle.np_forms.proofs.Words.{IsEquivalent, decomposed, ended, normal_form, Exchanges, IsOrderedForm, list_all, is_final, is_ordered, composite, compose_of}
use Rattle.np_forms.proofs.Words.{cond-true, cond-false, cases_Bool, encodes-chars, length-encode, len_utf8_bounds, length-le-encodes, compose_after, compose}
use Rattle.np_forms.proofs.Words.{counts, parts, is_empty, decomposition_kind, full}
use Rattle.np_forms.specs.Laws.{OneForm, OneOrderedForm, Idempotence, SameForms}
use Rattle.np_versions.proofs.MappingLemmas.{IsFullDecomposition-flat_map, full_decomposition-flat_map, full_of-final, final-decomposed, flat_map-final}
use Rattle.np_versions.proofs.MappingLemmas.{is_empty-false, full-final, full-mapped}
use Rattle.np_code_points.proofs.StepsLemmas.{keeps}
use Rattle.np_forms.proofs.MachineLemmas.{IsComposed-compose_of, composed-compose_of}
use Rattle.np_forms.proofs.OrderLemmas.{canonical_order-exchange, canonical_order-ordered, is_ordered-canonical_order, reaches_canonical_order}
use Rattle.np_forms.proofs.OrderLemmas.{list_all-canonical_order, length-canonical_order}
use Rattle.np_forms.proofs.ComposeLemmas.{decomposed-compose, compose_after-nil, compose_after-cases, compose-nil, compose-cases}
use Rattle.np_versions.proofs.CompositeLemmas.{composite-splits}
use Rattle.np_ucd.specs.declared.rows.MapKind.{MapKind}
use Rattle.np_ucd.specs.declared.rows.MapKind.TheVariants.{Plain, Canonical, Compatibility}

-- ---- the ordered form: there is one, and only one

module _ (ccc : ℕ → ℕ) where
  pub ordered_form-canonical_order : (xs ys : List ℕ) → IsOrderedForm ccc xs ys → ys ≡ canonical_order ccc xs
  ordered_form-canonical_order xs ys h =
      let order = canonical_order ccc in
      sym (keeps (Exchanges ccc) order (λ us vs e. ap order e.old ∙ canonical_order-exchange ccc e.before e.a e.b e.after e.pair ∙ ap order (sym e.new)) xs ys h.reached
      ∙ canonical_order-ordered ccc ys h.ordered)

  pub IsOrderedForm-canonical_order : (xs : List ℕ) → IsOrderedForm ccc xs (canonical_order ccc xs)
  IsOrderedForm-canonical_order xs = record { reached = reaches_canonical_order ccc xs; ordered = is_ordered-canonical_order ccc xs }

pub one_ordered_form : OneOrderedForm
one_ordered_form ccc xs =
    (canonical_order ccc xs, IsOrderedForm-canonical_order ccc xs, λ ys h. ordered_form-canonical_order ccc xs ys h)

module _ (v : VersionData) (sound : IsSound v) where
  pub IsDecomposed-decomposed : (compat : Bool) (xs : List ℕ) → IsDecomposed v compat xs (decomposed v compat xs)
  unfolding decomposed
  IsDecomposed-decomposed compat xs =
      record {
        full = flat_map (full_of v compat) xs;
        decomposes = IsFullDecomposition-flat_map v compat sound.shallow xs;
        orders = IsOrderedForm-canonical_order (class_of v) _;
      }

  pub decomposed_is : (compat : Bool) (xs ys : List ℕ) → IsDecomposed v compat xs ys → ys ≡ decomposed v compat xs
  unfolding decomposed
  decomposed_is compat xs ys h =
      ordered_form-canonical_order (class_of v) h.full ys h.orders
      ∙ ap (canonical_order (class_of v)) (full_decomposition-flat_map v compat sound.shallow xs h.full h.decomposes)

  pub EndsAs-ended : (b : Bool) (xs : List ℕ) → EndsAs v b xs (ended v b xs)
  EndsAs-ended true xs = IsComposed-compose_of v sound xs
  EndsAs-ended false xs = refl

  pub ended_is : (b : Bool) (xs ys : List ℕ) → EndsAs v b xs ys → ys ≡ ended v b xs
  ended_is true xs ys h = composed-compose_of v sound xs ys h
  ended_is false xs ys h = h

  pub IsNormalForm-normal_form : (form : Form) (xs : List ℕ) → IsNormalForm v form xs (normal_form v form xs)
  unfolding normal_form
  IsNormalForm-normal_form form xs =
      record {
        decomposed = decomposed v (is_compat form) xs;
        first = IsDecomposed-decomposed (is_compat form) xs;
        last = EndsAs-ended (composes form) (decomposed v (is_compat form) xs);
      }

  pub normal_form_is : (form : Form) (xs ys : List ℕ) → IsNormalForm v form xs ys → ys ≡ normal_form v form xs
  unfolding normal_form
  normal_form_is form xs ys h =
      ended_is (composes form) h.decomposed ys h.last ∙ ap (ended v (composes form)) (decomposed_is (is_compat form) xs h.decomposed h.first)

pub one_form : OneForm
one_form v form xs sound =
    (normal_form v form xs, IsNormalForm-normal_form v sound form xs, λ ys h. normal_form_is v sound form xs ys h)

-- ---- what a computed form says of the relations

module _ (v : VersionData) (sound : IsSound v) where
  -- a list that is the function's value is a normal form
  pub IsNormalForm-value : (form : Form) (xs ys : List ℕ) → ys ≡ normal_form v form xs → IsNormalForm v form xs ys
  IsNormalForm-value form xs ys e = subst (λ l. IsNormalForm v form xs l) (sym e) (IsNormalForm-normal_form v sound form xs)

  -- two texts are equivalent exactly where their ordered full decompositions are one list
  pub IsEquivalent-lists : (compat : Bool) (xs ys ds es : List ℕ) (P : Type 0) → ds ≡ decomposed v compat xs → es ≡ decomposed v compat ys → (P ↔ (ds ≡ es)) → P ↔ IsEquivalent v compat xs ys
  IsEquivalent-lists compat xs ys ds es P of_xs of_ys same = (
    λ yes.
        record {
          decomposed = decomposed v compat ys;
          left = subst (λ l. IsDecomposed v compat xs l) (sym of_xs ∙ same.0 yes ∙ of_ys) (IsDecomposed-decomposed v sound compat xs);
          right = IsDecomposed-decomposed v sound compat ys;
        },
    λ alike.
        same.1 (of_xs ∙ sym (decomposed_is v sound compat xs alike.decomposed alike.left) ∙ decomposed_is v sound compat ys alike.decomposed alike.right ∙ sym of_ys),
  )

-- ---- what a normal form keeps: its decomposition, and a property of each code point

module _ (v : VersionData) (sound : IsSound v) where
  pub is_ordered-decomposed : (compat : Bool) (xs : List ℕ) → is_ordered (class_of v) (decomposed v compat xs) ≡ true
  unfolding decomposed
  is_ordered-decomposed compat xs = is_ordered-canonical_order (class_of v) _

  pub all_final : (compat : Bool) (xs : List ℕ) → list_all (is_final v compat) (decomposed v compat xs) ≡ true
  unfolding decomposed
  all_final compat xs = list_all-canonical_order (class_of v) (is_final v compat) _ (final-decomposed v compat sound.shallow xs)

  pub decomposed-final : (compat : Bool) (ds : List ℕ) → list_all (is_final v compat) ds ≡ true → is_ordered (class_of v) ds ≡ true → decomposed v compat ds ≡ ds
  unfolding decomposed
  decomposed-final compat ds final ordered =
      ap (canonical_order (class_of v)) (flat_map-final v compat sound.shallow ds final) ∙ canonical_order-ordered (class_of v) ds ordered

  pub decomposed-composed : (compat : Bool) (ds : List ℕ) → list_all (is_final v compat) ds ≡ true → is_ordered (class_of v) ds ≡ true → decomposed v compat (compose_of v ds) ≡ ds
  unfolding decomposed compose_of
  decomposed-composed compat ds final ordered =
      decomposed-compose (class_of v) (composite v) (full_of v compat) (is_final v compat) (full_of-final v compat sound.shallow) (composite-splits v sound compat) ds final
      ∙ canonical_order-ordered (class_of v) ds ordered

  decomposed-ended : (b compat : Bool) (ds : List ℕ) → list_all (is_final v compat) ds ≡ true → is_ordered (class_of v) ds ≡ true → decomposed v compat (ended v b ds) ≡ ds
  decomposed-ended true compat ds final ordered = decomposed-composed compat ds final ordered
  decomposed-ended false compat ds final ordered = decomposed-final compat ds final ordered

  -- the ordered full decomposition of a normal form is that of the text
  pub decomposed-normal_form : (form : Form) (xs : List ℕ) → decomposed v (is_compat form) (normal_form v form xs) ≡ decomposed v (is_compat form) xs
  unfolding normal_form
  decomposed-normal_form form xs =
      decomposed-ended (composes form) (is_compat form) (decomposed v (is_compat form) xs) (all_final (is_compat form) xs) (is_ordered-decomposed (is_compat form) xs)

  pub normal_form-twice : (form : Form) (xs : List ℕ) → normal_form v form (normal_form v form xs) ≡ normal_form v form xs
  unfolding normal_form
  normal_form-twice form xs = ap (ended v (composes form)) (decomposed-normal_form form xs)

pub idempotence : Idempotence
idempotence v form xs ys ds sound is of_xs =
    let same = normal_form_is v sound form xs ys is in
    let twice : normal_form v form ys ≡ ys = ap (normal_form v form) same ∙ normal_form-twice v sound form xs ∙ sym same in
    let kept : decomposed v (is_compat form) ys ≡ ds =
    ap (decomposed v (is_compat form)) same ∙ decomposed-normal_form v sound form xs ∙ sym (decomposed_is v sound (is_compat form) xs ds of_xs) in
    (subst (λ l. IsNormalForm v form ys l) twice (IsNormalForm-normal_form v sound form ys), subst (λ l. IsDecomposed v (is_compat form) ys l) kept (IsDecomposed-decomposed v sound (is_compat form) ys))

pub same_forms : SameForms
unfolding normal_form
same_forms v form xs ys ks ls sound of_xs of_ys =
    let k = normal_form_is v sound form xs ks of_xs in
    let l = normal_form_is v sound form ys ls of_ys in
    let compat = is_compat form in
    IsEquivalent-lists v sound compat xs ys (decomposed v compat xs) (decomposed v compat ys) (ks ≡ ls) refl refl (
      λ same. sym (decomposed-normal_form v sound form xs) ∙ ap (decomposed v compat) (sym k ∙ same ∙ l) ∙ decomposed-normal_form v sound form ys,
      λ one. k ∙ ap (ended v (composes form)) one ∙ sym l,
    )

-- ---- lengths of lists

length-flat_map-some : (f : ℕ → List ℕ) → ((c : ℕ) → 1 ≤ length (f c)) → (xs : List ℕ) → xs ≢ [] → 1 ≤ length (flat_map f xs)
length-flat_map-some f some [] h = absurd (h refl)
length-flat_map-some f some (x ∷ xs) h = omega (arith, some x, length-append (f x) (flat_map f xs))

length-flat_map-most : (f : ℕ → List ℕ) → ((c : ℕ) → length (f c) ≤ 64) → (xs : List ℕ) → length (flat_map f xs) ≤ 64 * length xs
length-flat_map-most f most [] = omega arith
length-flat_map-most f most (x ∷ xs) = omega (arith, most x, length-flat_map-most f most xs, length-append (f x) (flat_map f xs))

length-flat_map-more : (f g : ℕ → List ℕ) → ((c : ℕ) → length (f c) ≤ length (g c)) → (xs : List ℕ) → length (flat_map f xs) ≤ length (flat_map g xs)
length-flat_map-more f g more [] = omega arith
length-flat_map-more f g more (x ∷ xs) =
    omega (arith, more x, length-flat_map-more f g more xs, length-append (f x) (flat_map f xs), length-append (g x) (flat_map g xs))

-- ---- lengths of full decompositions

module _ (v : VersionData) where
  length-full : (compat : Bool) (n c : ℕ) → 1 ≤ length (full v compat n c)
  unfolding full
  length-full compat zero c = omega arith
  length-full compat (suc n) c =
      elim (cases_Bool (is_final v compat c)) [
        | inl final ↦ omega (arith, ap length (full-final v compat (suc n) c final))
        | inr mapped ↦ omega (arith, ap length (full-mapped v compat n c mapped), length-flat_map-some (full v compat n) (length-full compat n) (parts v compat c) (is_empty-false _ mapped))
      ]

  counts-more : (kind : MapKind) → counts false kind ≡ true → counts true kind ≡ true
  counts-more Plain h = h
  counts-more Canonical h = h
  counts-more Compatibility h = refl

  parts-more : (c : ℕ) → parts v false c ≢ [] → parts v true c ≡ parts v false c
  unfolding parts
  parts-more c some =
      elim (cases_Bool (counts false (decomposition_kind v c))) [
        | inl on ↦ cond-true _ _ _ (counts-more (decomposition_kind v c) on) ∙ sym (cond-true _ _ _ on)
        | inr off ↦ absurd (some (cond-false _ _ _ off))
      ]

  -- no canonical decomposition is longer than the compatibility decomposition
  full-more : (n c : ℕ) → length (full v false n c) ≤ length (full v true n c)
  unfolding full
  full-more zero c = omega arith
  full-more (suc n) c =
      elim (cases_Bool (is_final v false c)) [
        | inl final ↦ omega (arith, ap length (full-final v false (suc n) c final), length-full true (suc n) c)
        | inr mapped ↦
            let same = parts-more c (is_empty-false _ mapped) in
            let more = full-mapped v true n c (ap is_empty same ∙ mapped) ∙ ap (flat_map (full v true n)) same in
            omega (arith, ap length (full-mapped v false n c mapped), ap length more, length-flat_map-more (full v false n) (full v true n) (full-more n) (parts v false c))
      ]

  module _ (sound : IsSound v) where
    short-compatible : (c : ℕ) → length (full_of v true c) ≤ 64
    short-compatible c = omega (arith, sound.short c _ (IsFullDecomposition-flat_map v true sound.shallow (c ∷ [])), ap length (append-nil (full_of v true c)))

    short : (compat : Bool) (c : ℕ) → length (full_of v compat c) ≤ 64
    unfolding full_of
    short true c = short-compatible c
    short false c = omega (arith, short-compatible c, full-more 32 c)

    length-decomposed : (compat : Bool) (xs : List ℕ) → length (decomposed v compat xs) ≤ 64 * length xs
    unfolding decomposed
    length-decomposed compat xs =
        omega (
          arith,
          length-canonical_order (class_of v) (flat_map (full_of v compat) xs),
          length-flat_map-most (full_of v compat) (short compat) xs,
        )

-- ---- lengths of compositions

module _ (ccc : ℕ → ℕ) (pair : ℕ → ℕ → Option ℕ) where
  length-compose_after : (s : ℕ) (bs cs : List ℕ) → length (compose_after ccc pair s bs cs) ≤ 1 + length bs + length cs
  length-compose_after s bs [] = omega (arith, ap length (compose_after-nil ccc pair s bs))
  length-compose_after s bs (c ∷ cs) =
      compose_after-cases ccc pair s bs c cs (λ l. length l ≤ 1 + length bs + length (c ∷ cs))
      (λ p _ _. omega (arith, length-compose_after p bs cs))
      (λ _ _. omega (arith, length-compose_after c [] cs, length-append bs (compose_after ccc pair c [] cs)))
      (λ _ _. omega (arith, length-compose_after s (bs ++ c ∷ []) cs, length-append bs (c ∷ [])))

  length-compose : (cs : List ℕ) → length (compose ccc pair cs) ≤ length cs
  length-compose [] = omega (arith, ap length (compose-nil ccc pair))
  length-compose (c ∷ cs) =
      compose-cases ccc pair c cs (λ l. length l ≤ length (c ∷ cs))
      (λ _. omega (arith, length-compose_after c [] cs))
      (λ _. omega (arith, length-compose cs))

-- ---- lengths of forms: 64 code points for each code point of the text, and 256 bytes for each byte, at most

module _ (v : VersionData) (sound : IsSound v) where
  length-ended : (b : Bool) (xs : List ℕ) → length (ended v b xs) ≤ length xs
  unfolding compose_of
  length-ended true xs = length-compose (class_of v) (composite v) xs
  length-ended false xs = omega arith

  pub length-normal_form : (form : Form) (xs ys : List ℕ) → IsNormalForm v form xs ys → length ys ≤ 64 * length xs
  unfolding normal_form
  length-normal_form form xs ys is =
      omega (
        arith,
        ap length (normal_form_is v sound form xs ys is),
        length-ended (composes form) (decomposed v (is_compat form) xs),
        length-decomposed v sound (is_compat form) xs,
      )

pub length-encodes : (cs : List ℕ) → length (encode_utf8_all cs) ≤ 4 * length cs
length-encodes [] = omega arith
length-encodes (c ∷ cs) = omega (arith, length-encodes cs, length-append (encode_utf8 c) (encode_utf8_all cs), length-encode c, (len_utf8_bounds c).1)

-- the bytes of a normal form
pub length-key : (v : VersionData) (form : Form) (string key : List ℕ) → IsSound v → IsUtf8 string → IsUtf8 key → IsNormalForm v form (chars string) (chars key) → length key ≤ 256 * length string
length-key v form string key sound text utf8 is =
    omega (
      arith,
      length-normal_form v sound form (chars string) (chars key) is,
      length-encodes (chars key),
      ap length (encodes-chars key utf8),
      length-le-encodes (chars string),
      ap length (encodes-chars string text),
    )
