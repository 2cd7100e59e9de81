-- How long a caseless list is.
use Rattle.std.proofs.Common.{◌≡◌, ◌≢◌, ℕ, zero, suc, ◌+◌, ◌*◌, ◌≤◌, Bool, true, false, eqb, List, [], ◌∷◌, ◌++◌, length, flat_map, Option, chars, refl, sym, ap, subst, ◌∙◌, inl, inr, arith, length-append}
use Rattle.std.specs.List.{All}
use Rattle.std.proofs.lemmas.Bool.{cond-true, cond-false, cases_Bool}
use Rattle.std.proofs.lemmas.Grind.{flat_map-append}
use Rattle.std.proofs.lemmas.List.{append-nil}
use Rattle.std.proofs.lemmas.List.Elements.{All-head, All-tail}
use Rattle.std.proofs.lemmas.Str.{encodes-chars, length-le-encodes}
use Rattle.np_code_points.specs.declared.forms.Form.{Form}
use Rattle.np_code_points.specs.declared.forms.Form.TheVariants.{Nfd, Nfc, Nfkd, Nfkc}
use Rattle.np_foldings.specs.Foldings.{Folding, IsFolding}
use Rattle.np_forms.specs.inside.CanonicalOrder.{canonical_order}
use Rattle.np_forms.specs.inside.Composing.{compose, compose_after, compose_of}
use Rattle.np_forms.specs.inside.NormalForms.{decomposed, ended, normal_form}
use Rattle.np_forms.proofs.ComposeLemmas.{compose_after-nil, compose_after-cases, compose-nil, compose-cases}
use Rattle.np_forms.proofs.FormLemmas.{length-encodes}
use Rattle.np_forms.proofs.OrderLemmas.{canonical_order-keeps, length-canonical_order}
use Rattle.np_ucd.specs.declared.rows.MapKind.{MapKind}
use Rattle.np_ucd.specs.declared.rows.MapKind.TheVariants.{Plain, Canonical, Compatibility}
use Rattle.np_versions.specs.Mappings.{counts, parts, is_final}
use Rattle.np_versions.specs.Versions.{VersionData, class_of, is_empty, decomposition_kind}
use Rattle.np_versions.specs.inside.CompositeSearch.{composite}
use Rattle.np_versions.specs.inside.FullDecompositions.{full, full_of}
use Rattle.np_versions.proofs.MappingLemmas.{is_empty-false, full-final, full-mapped, full-some, full_of-some}
use Rattle.np_caseless.specs.Conditions.{IsSoundFolding}
use Rattle.np_caseless.specs.Folded.{FoldedVersion, folding_at, fold_all}
use Rattle.np_caseless.specs.Laws.{FewCodePoints, FewBytes}
use Rattle.np_caseless.specs.inside.Keys.{folded, caseless}
use Rattle.np_caseless.proofs.KeyLemmas.{caseless_is, IsCaseless-caseless}

-- How many code points come of a list's.
abbrev weight : (ℕ → List ℕ) → List ℕ → ℕ
weight f xs = length (flat_map f xs)

abbrev behind : (ℕ → List ℕ) → (ℕ → List ℕ) → ℕ → List ℕ
behind f g c = flat_map f (g c)

flat_map-twice : (f g : ℕ → List ℕ) (xs : List ℕ) → flat_map f (flat_map g xs) ≡ flat_map (behind f g) xs
flat_map-twice f g [] = refl
flat_map-twice f g (x ∷ xs) = flat_map-append f (g x) (flat_map g xs) ∙ ap (λ l. flat_map f (g x) ++ l) (flat_map-twice f g xs)

weight-twice : (f g : ℕ → List ℕ) (xs : List ℕ) → weight f (flat_map g xs) ≡ weight (behind f g) xs
weight-twice f g xs = ap length (flat_map-twice f g xs)

weight-exchange : (f : ℕ → List ℕ) (us : List ℕ) (a b : ℕ) (vs : List ℕ) → weight f (us ++ a ∷ b ∷ vs) ≡ weight f (us ++ b ∷ a ∷ vs)
weight-exchange f us a b vs =
    omega (
      arith,
      ap length (flat_map-append f us (a ∷ b ∷ vs)),
      ap length (flat_map-append f us (b ∷ a ∷ vs)),
      length-append (flat_map f us) (f a ++ (f b ++ flat_map f vs)),
      length-append (flat_map f us) (f b ++ (f a ++ flat_map f vs)),
      length-append (f a) (f b ++ flat_map f vs),
      length-append (f b) (f a ++ flat_map f vs),
      length-append (f a) (flat_map f vs),
      length-append (f b) (flat_map f vs),
    )

-- ordering counts none
weight-order : (f : ℕ → List ℕ) (ccc : ℕ → ℕ) (xs : List ℕ) → weight f (canonical_order ccc xs) ≡ weight f xs
weight-order f ccc xs = canonical_order-keeps ccc (weight f) (λ us a b vs _. weight-exchange f us a b vs) xs

weight-most : (f : ℕ → List ℕ) → ((c : ℕ) → length (f c) ≤ 64) → (xs : List ℕ) → weight f xs ≤ 64 * length xs
weight-most f most [] = omega arith
weight-most f most (x ∷ xs) = omega (arith, most x, weight-most f most xs, length-append (f x) (flat_map f xs))

weight-more : (f g : ℕ → List ℕ) → ((c : ℕ) → length (f c) ≤ length (g c)) → (xs : List ℕ) → weight f xs ≤ weight g xs
weight-more f g more [] = omega arith
weight-more f g more (x ∷ xs) =
    omega (arith, more x, weight-more f g more xs, length-append (f x) (flat_map f xs), length-append (g x) (flat_map g xs))

weight-least : (f : ℕ → List ℕ) → ((c : ℕ) → 1 ≤ length (f c)) → (xs : List ℕ) → length xs ≤ weight f xs
weight-least f some [] = omega arith
weight-least f some (x ∷ xs) = omega (arith, some x, weight-least f some xs, length-append (f x) (flat_map f xs))

-- No canonical decomposition is longer than the compatible one.
module _ (v : VersionData) where
  counts_more : (kind : MapKind) → counts false kind ≡ true → counts true kind ≡ true
  counts_more Plain h = h
  counts_more Canonical h = h
  counts_more Compatibility h = refl

  parts_more : (c : ℕ) → parts v false c ≢ [] → parts v true c ≡ parts v false c
  unfolding parts
  parts_more c some =
      elim (cases_Bool (counts false (decomposition_kind v c))) [
        | inl on ↦ cond-true _ _ _ (counts_more (decomposition_kind v c) on) ∙ sym (cond-true _ _ _ on)
        | inr off ↦ absurd (some (cond-false _ _ _ off))
      ]

  full_more : (n c : ℕ) → length (full v false n c) ≤ length (full v true n c)
  unfolding full
  full_more zero c = omega arith
  full_more (suc n) c =
      elim (cases_Bool (is_final v false c)) [
        | inl final ↦ let some = full-some v true (suc n) c in omega (arith, ap length (full-final v false (suc n) c final))
        | inr mapped ↦
            let same = parts_more c (is_empty-false _ mapped) in
            let more = full-mapped v true n c (ap is_empty same ∙ mapped) ∙ ap (flat_map (full v true n)) same in
            omega (arith, ap length (full-mapped v false n c mapped), ap length more, weight-more (full v false n) (full v true n) (full_more n) (parts v false c))
      ]

  pub full_of_more : (c : ℕ) → length (full_of v false c) ≤ length (full_of v true c)
  unfolding full_of
  full_of_more c = full_more 32 c

-- Composing only takes away.
module _ (ccc : ℕ → ℕ) (pair : ℕ → ℕ → Option ℕ) where
  length-compose_after : (s : ℕ) (bs cs : List ℕ) → length (compose_after ccc pair s bs cs) ≤ 1 + length bs + length cs
  length-compose_after s bs [] = omega (arith, ap length (compose_after-nil ccc pair s bs))
  length-compose_after s bs (c ∷ cs) =
      compose_after-cases ccc pair s bs c cs (λ l. length l ≤ 1 + length bs + length (c ∷ cs))
      (λ p _ _. omega (arith, length-compose_after p bs cs))
      (λ _ _. omega (arith, length-compose_after c [] cs, length-append bs (compose_after ccc pair c [] cs)))
      (λ _ _. omega (arith, length-compose_after s (bs ++ c ∷ []) cs, length-append bs (c ∷ [])))

  length-compose : (cs : List ℕ) → length (compose ccc pair cs) ≤ length cs
  length-compose [] = omega (arith, ap length (compose-nil ccc pair))
  length-compose (c ∷ cs) =
      compose-cases ccc pair c cs (λ l. length l ≤ length (c ∷ cs))
      (λ _. omega (arith, length-compose_after c [] cs))
      (λ _. omega (arith, length-compose cs))

length-ended : (v : VersionData) (b : Bool) (xs : List ℕ) → length (ended v b xs) ≤ length xs
unfolding compose_of
length-ended v true xs = length-compose (class_of v) (composite v) xs
length-ended v false xs = omega arith

-- Each folding has some code point.
folding_step : (f : Folding) (rest : List Folding) (c : ℕ) (t : Bool) → eqb f.code c ≡ t → 1 ≤ length f.mapping → 1 ≤ length (folding_at rest c) → 1 ≤ length (folding_at (f ∷ rest) c)
unfolding folding_at
folding_step f rest c true e here more = subst (λ l. 1 ≤ length l) (sym (cond-true (eqb f.code c) f.mapping (folding_at rest c) e)) here
folding_step f rest c false e here more = subst (λ l. 1 ≤ length l) (sym (cond-false (eqb f.code c) f.mapping (folding_at rest c) e)) more

folding_some : (fs : List Folding) (c : ℕ) → All IsFolding fs → 1 ≤ length (folding_at fs c)
unfolding folding_at
folding_some [] c h = omega arith
folding_some (f ∷ fs) c h = folding_step f fs c (eqb f.code c) refl (All-head IsFolding f fs h).some (folding_some fs c (All-tail IsFolding f fs h))

-- How many code points come of a string, as of each of its code points.
module _ (v : FoldedVersion) where
  abbrev D : ℕ → List ℕ
  D = full_of v.version false

  abbrev K : ℕ → List ℕ
  K = full_of v.version true

  abbrev F : ℕ → List ℕ
  F = folding_at v.foldings

  abbrev order : List ℕ → List ℕ
  order = canonical_order (class_of v.version)

  -- what comes of one code point, compatibly and canonically
  abbrev pub twice : ℕ → List ℕ
  twice = behind (behind (behind (behind K F) K) F) D

  abbrev once : ℕ → List ℕ
  once = behind (behind D F) D

  count_twice : (xs : List ℕ) → length (order (flat_map K (flat_map F (order (flat_map K (flat_map F (order (flat_map D xs)))))))) ≡ weight twice xs
  count_twice xs =
      let z = flat_map D xs in
      let y = flat_map K (flat_map F (order z)) in
      length-canonical_order (class_of v.version) (flat_map K (flat_map F (order y)))
      ∙ weight-twice K F (order y)
      ∙ weight-order (behind K F) (class_of v.version) y
      ∙ weight-twice (behind K F) K (flat_map F (order z))
      ∙ weight-twice (behind (behind K F) K) F (order z)
      ∙ weight-order (behind (behind (behind K F) K) F) (class_of v.version) z
      ∙ weight-twice (behind (behind (behind K F) K) F) D xs

  count_once : (xs : List ℕ) → length (order (flat_map D (flat_map F (order (flat_map D xs))))) ≡ weight once xs
  count_once xs =
      let z = flat_map D xs in
      length-canonical_order (class_of v.version) (flat_map D (flat_map F (order z)))
      ∙ weight-twice D F (order z)
      ∙ weight-order (behind D F) (class_of v.version) z
      ∙ weight-twice (behind D F) D xs

  pub count_compatible : (xs : List ℕ) → length (decomposed v.version true (folded v true xs)) ≡ weight twice xs
  unfolding decomposed normal_form fold_all
  count_compatible xs = count_twice xs

  count_canonical : (xs : List ℕ) → length (decomposed v.version false (folded v false xs)) ≡ weight once xs
  unfolding decomposed normal_form fold_all
  count_canonical xs = count_once xs

module _ (v : FoldedVersion) (sound : IsSoundFolding v) where
  short_key : (c : ℕ) → length (caseless v Nfkd (c ∷ [])) ≤ 64
  short_key c = sound.short c (caseless v Nfkd (c ∷ [])) (IsCaseless-caseless v sound.version Nfkd (c ∷ []))

  short_list : (c : ℕ) → length (decomposed v.version true (folded v true (c ∷ []))) ≤ 64
  unfolding caseless normal_form
  short_list c = short_key c

  short_twice : (c : ℕ) → length (twice v c) ≤ 64
  short_twice c =
      let s = short_list c in
      let e = count_compatible v (c ∷ []) in
      let same = ap length (append-nil (twice v c)) in
      omega (arith, s, e, same)

  -- canonically no more come than compatibly
  fold_some : (c : ℕ) → 1 ≤ length (F v c)
  fold_some c = folding_some v.foldings c sound.foldings.each

  inner_some : (c : ℕ) → 1 ≤ length (behind (K v) (F v) c)
  inner_some c =
      let s = fold_some c in
      let w = weight-least (K v) (λ d. let k = full_of-some v.version true d in omega arith) (F v c) in
      omega arith

  inner_more : (c : ℕ) → length (D v c) ≤ length (behind (behind (K v) (F v)) (K v) c)
  inner_more c = let m = full_of_more v.version c in let w = weight-least (behind (K v) (F v)) inner_some (K v c) in omega arith

  middle_more : (c : ℕ) → length (behind (D v) (F v) c) ≤ length (behind (behind (behind (K v) (F v)) (K v)) (F v) c)
  middle_more c = weight-more (D v) (behind (behind (K v) (F v)) (K v)) inner_more (F v c)

  once_more : (c : ℕ) → length (once v c) ≤ length (twice v c)
  once_more c = weight-more (behind (D v) (F v)) (behind (behind (behind (K v) (F v)) (K v)) (F v)) middle_more (D v c)

  short_once : (c : ℕ) → length (once v c) ≤ 64
  short_once c = let m = once_more c in let s = short_twice c in omega arith

  few_canonical : (composing : Bool) (xs : List ℕ) → length (ended v.version composing (decomposed v.version false (folded v false xs))) ≤ 64 * length xs
  few_canonical composing xs =
      omega (arith, length-ended v.version composing (decomposed v.version false (folded v false xs)), count_canonical v xs, weight-most (once v) short_once xs)

  few_compatible : (composing : Bool) (xs : List ℕ) → length (ended v.version composing (decomposed v.version true (folded v true xs))) ≤ 64 * length xs
  few_compatible composing xs =
      omega (arith, length-ended v.version composing (decomposed v.version true (folded v true xs)), count_compatible v xs, weight-most (twice v) short_twice xs)

  few_of : (form : Form) (xs : List ℕ) → length (caseless v form xs) ≤ 64 * length xs
  unfolding caseless normal_form
  few_of Nfd xs = few_canonical false xs
  few_of Nfc xs = few_canonical true xs
  few_of Nfkd xs = few_compatible false xs
  few_of Nfkc xs = few_compatible true xs

pub few_code_points : FewCodePoints
few_code_points v form xs ks sound is =
    subst (λ l. length l ≤ 64 * length xs) (sym (caseless_is v sound.version form xs ks is)) (few_of v sound form xs)

pub few_bytes : FewBytes
few_bytes v form string key sound text utf8 is =
    omega (
      arith,
      few_code_points v form (chars string) (chars key) sound is,
      length-encodes (chars key),
      ap length (encodes-chars key utf8),
      length-le-encodes (chars string),
      ap length (encodes-chars string text),
    )
