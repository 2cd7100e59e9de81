-- Full decomposition: the function gives the one that there is.
use Rattle.std.proofs.Common.{◌≡◌, ◌≢◌, ℕ, zero, suc, ◌<◌, Bool, true, false, List, [], ◌∷◌, ◌++◌, length, flat_map, refl, sym, ap, subst, ◌∙◌, inl, inr, arith, append_assoc, append-nil, length-append}
use Rattle.np_versions.proofs.Words.{cond-true, cond-false, cases_Bool, and_parts, and_from, list_all, VersionData, is_empty, decomposition_mapping, parts}
use Rattle.np_versions.proofs.Words.{Rewrites, is_final, IsFullDecomposition, has_depth, full, full_of, SomeDecomposition}
use Rattle.np_code_points.specs.Steps.{Reaches}
use Rattle.np_code_points.proofs.StepsLemmas.{stays, stays_at, one_more, join, along}
use Rattle.np_versions.proofs.UniqueLemmas.{at_most_one}
pub use Rattle.np_versions.proofs.UniqueLemmas.{is_empty-true}

pub list_all-append : (p : ℕ → Bool) (xs ys : List ℕ) → list_all p xs ≡ true → list_all p ys ≡ true → list_all p (xs ++ ys) ≡ true
list_all-append p [] ys front back = back
list_all-append p (x ∷ xs) ys front back =
    let halves = and_parts (p x) (list_all p xs) front in and_from _ _ halves.0 (list_all-append p xs ys halves.1 back)

pub is_empty-false : (xs : List ℕ) → is_empty xs ≡ false → xs ≢ []
is_empty-false xs h e = grind arith

pub is_empty_from : (xs : List ℕ) → xs ≢ [] → is_empty xs ≡ false
is_empty_from xs h = grind arith

flat_map-some : (f : ℕ → List ℕ) → ((c : ℕ) → 0 < length (f c)) → (xs : List ℕ) → is_empty xs ≡ false → 0 < length (flat_map f xs)
flat_map-some f some xs h = grind (arith, length-append)

module _ (v : VersionData) (compat : Bool) where
  -- what counts is the mapping
  pub parts-cases : (P : List ℕ → Type 0) → P [] → (c : ℕ) → P (decomposition_mapping v c) → P (parts v compat c)
  unfolding parts
  parts-cases P none c some = grind (arith, cond-true, cond-false)

  pub full-final : (n c : ℕ) → is_final v compat c ≡ true → full v compat n c ≡ c ∷ []
  unfolding full
  full-final n c h = grind (arith, cond-true)

  pub full-mapped : (n c : ℕ) → is_final v compat c ≡ false → full v compat (suc n) c ≡ flat_map (full v compat n) (parts v compat c)
  unfolding full
  full-mapped n c h = cond-false _ _ _ h

  pub flat_map-same : (f g : ℕ → List ℕ) (p : ℕ → Bool) → ((c : ℕ) → p c ≡ true → f c ≡ g c) → (xs : List ℕ) → list_all p xs ≡ true → flat_map f xs ≡ flat_map g xs
  flat_map-same f g p same [] all = refl
  flat_map-same f g p same (x ∷ xs) all =
      let rest = flat_map-same f g p same xs in grind arith

  shallow_final : (c : ℕ) → has_depth v zero c ≡ true → is_final v compat c ≡ true
  unfolding has_depth
  shallow_final c h = parts-cases (λ l. is_empty l ≡ true) refl c h

  depth_parts : (n c : ℕ) → has_depth v (suc n) c ≡ true → list_all (has_depth v n) (parts v compat c) ≡ true
  unfolding has_depth
  depth_parts n c h = parts-cases (λ l. list_all (has_depth v n) l ≡ true) refl c h

  -- more fuel than the depth changes nothing
  pub full-more : (n c : ℕ) → has_depth v n c ≡ true → full v compat (suc n) c ≡ full v compat n c
  full-more zero c h = let final = shallow_final c h in full-final 1 c final ∙ sym (full-final zero c final)
  full-more (suc n) c h =
      let same = flat_map-same (full v compat (suc n)) (full v compat n) (has_depth v n) (full-more n) (parts v compat c) (depth_parts n c h) in
      grind (arith, full-final, full-mapped)

  final-flat_map : (f : ℕ → List ℕ) (p q : ℕ → Bool) → ((c : ℕ) → p c ≡ true → list_all q (f c) ≡ true) → (xs : List ℕ) → list_all p xs ≡ true → list_all q (flat_map f xs) ≡ true
  final-flat_map f p q each [] all = refl
  final-flat_map f p q each (x ∷ xs) all =
      let rest = final-flat_map f p q each xs in grind (arith, list_all-append)

  final-full : (n c : ℕ) → has_depth v n c ≡ true → list_all (is_final v compat) (full v compat n c) ≡ true
  final-full zero c h = grind (arith, shallow_final, full-final, and_from)
  final-full (suc n) c h =
      let each = final-flat_map (full v compat n) (has_depth v n) (is_final v compat) (final-full n) (parts v compat c) (depth_parts n c h) in
      grind (arith, full-final, full-mapped)

  -- ---- steps of rewriting lead there

  rewrite_front : (zs xs ys : List ℕ) → Rewrites v compat xs ys → Rewrites v compat (zs ++ xs) (zs ++ ys)
  rewrite_front zs xs ys r =
      record {
        before = zs ++ r.before;
        code = r.code;
        after = r.after;
        maps = r.maps;
        old = ap (λ l. zs ++ l) r.old ∙ sym (append_assoc zs _ _);
        new = ap (λ l. zs ++ l) r.new ∙ sym (append_assoc zs _ _);
      }

  rewrite_back : (zs xs ys : List ℕ) → Rewrites v compat xs ys → Rewrites v compat (xs ++ zs) (ys ++ zs)
  rewrite_back zs xs ys r = grind (arith, append_assoc)

  abbrev Leads : List ℕ → List ℕ → Type 0
  Leads = Reaches (Rewrites v compat)

  leads_flat_map : (f : ℕ → List ℕ) (p : ℕ → Bool) → ((c : ℕ) → p c ≡ true → Leads (c ∷ []) (f c)) → (xs : List ℕ) → list_all p xs ≡ true → Leads xs (flat_map f xs)
  leads_flat_map f p each [] all = stays_at (Rewrites v compat) [] [] refl
  leads_flat_map f p each (x ∷ xs) all =
      let halves = and_parts (p x) (list_all p xs) all in
      join (Rewrites v compat) (x ∷ xs) (f x ++ xs) (f x ++ flat_map f xs)
      (along (Rewrites v compat) (λ l. l ++ xs) (rewrite_back xs) (x ∷ []) (f x) (each x halves.0))
      (along (Rewrites v compat) (λ l. f x ++ l) (rewrite_front (f x)) xs (flat_map f xs) (leads_flat_map f p each xs halves.1))

  leads_full : (n c : ℕ) → has_depth v n c ≡ true → Leads (c ∷ []) (full v compat n c)
  leads_full zero c h = stays_at (Rewrites v compat) _ _ (sym (full-final zero c (shallow_final c h)))
  leads_full (suc n) c h =
      elim (cases_Bool (is_final v compat c)) [
        | inl final ↦ stays_at (Rewrites v compat) _ _ (sym (full-final (suc n) c final))
        | inr mapped ↦
            subst (λ l. Leads (c ∷ []) l) (sym (full-mapped n c mapped))
            (one_more (Rewrites v compat) (c ∷ []) (parts v compat c) _
            (record { before = []; code = c; after = []; maps = is_empty-false _ mapped; old = refl; new = sym (append-nil _) })
            (leads_flat_map (full v compat n) (has_depth v n) (leads_full n) (parts v compat c) (depth_parts n c h)))
      ]

  -- the function gives what rewriting reaches, where nothing is deeper than the fuel
  pub decomposes_flat : (n : ℕ) (xs : List ℕ) → list_all (has_depth v n) xs ≡ true → IsFullDecomposition v compat xs (flat_map (full v compat n) xs)
  decomposes_flat n xs h = search (arith, leads_flat_map, leads_full, final-flat_map, final-full)

  pub decomposes_full : (n c : ℕ) → has_depth v n c ≡ true → IsFullDecomposition v compat (c ∷ []) (full v compat n c)
  decomposes_full n c h = record { reached = leads_full n c h; final = final-full n c h }

  -- and nothing else
  pub full-only : (n c : ℕ) (ys : List ℕ) → has_depth v n c ≡ true → IsFullDecomposition v compat (c ∷ []) ys → ys ≡ full v compat n c
  full-only n c ys h is = at_most_one v compat (c ∷ []) ys (full v compat n c) is (decomposes_full n c h)

  -- ---- it is never empty

  pub full-some : (n c : ℕ) → 0 < length (full v compat n c)
  unfolding full
  full-some zero c = omega arith
  full-some (suc n) c =
      let some = flat_map-some (full v compat n) (full-some n) (parts v compat c) in
      grind (arith, full-final, full-mapped)

  pub full_of-some : (c : ℕ) → 0 < length (full_of v compat c)
  unfolding full_of
  full_of-some c = full-some 32 c

  -- ---- where no code point is too deep

  module _ (shallow : (c : ℕ) → has_depth v 32 c ≡ true) where
    pub full_of-final : (c : ℕ) → is_final v compat c ≡ true → full_of v compat c ≡ c ∷ []
    unfolding full_of
    full_of-final c h = full-final 32 c h

    pub full_of-mapped : (c : ℕ) → is_final v compat c ≡ false → full_of v compat c ≡ flat_map (full_of v compat) (parts v compat c)
    unfolding full_of
    full_of-mapped c h = sym (full-more 32 c (shallow c)) ∙ full-mapped 32 c h

    pub full_of-only : (c : ℕ) (ys : List ℕ) → IsFullDecomposition v compat (c ∷ []) ys → ys ≡ full_of v compat c
    unfolding full_of
    full_of-only c ys h = full-only 32 c ys (shallow c) h

    pub IsFullDecomposition-full_of : (c : ℕ) → IsFullDecomposition v compat (c ∷ []) (full_of v compat c)
    unfolding full_of
    IsFullDecomposition-full_of c = decomposes_full 32 c (shallow c)

    all_shallow : (xs : List ℕ) → list_all (has_depth v 32) xs ≡ true
    all_shallow [] = refl
    all_shallow (x ∷ xs) = and_from _ _ (shallow x) (all_shallow xs)

    pub IsFullDecomposition-flat_map : (xs : List ℕ) → IsFullDecomposition v compat xs (flat_map (full_of v compat) xs)
    unfolding full_of
    IsFullDecomposition-flat_map xs = decomposes_flat 32 xs (all_shallow xs)

    pub final-decomposed : (xs : List ℕ) → list_all (is_final v compat) (flat_map (full_of v compat) xs) ≡ true
    final-decomposed xs = (IsFullDecomposition-flat_map xs).final

    pub full_decomposition-flat_map : (xs ys : List ℕ) → IsFullDecomposition v compat xs ys → ys ≡ flat_map (full_of v compat) xs
    full_decomposition-flat_map xs ys h = at_most_one v compat xs ys (flat_map (full_of v compat) xs) h (IsFullDecomposition-flat_map xs)

    pub flat_map-final : (xs : List ℕ) → list_all (is_final v compat) xs ≡ true → flat_map (full_of v compat) xs ≡ xs
    flat_map-final xs h = sym (full_decomposition-flat_map xs xs (record { reached = stays (Rewrites v compat) xs; final = h }))

pub some_decomposition : SomeDecomposition
some_decomposition v compat n xs h = record { list = flat_map (full v compat n) xs; is = decomposes_flat v compat n xs h }
