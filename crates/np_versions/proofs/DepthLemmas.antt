-- Marks of code points, round by round.
use Rattle.std.proofs.Common.{◌≡◌, ℕ, zero, suc, ◌<◌, ◌≤◌, Bool, true, false, ◌&&◌, min, List, [], ◌∷◌, map, flat_map, length, refl, sym, ap, ◌∙◌, arith}
use Rattle.np_versions.proofs.Words.{cond-true, cond-false, both_ways, and_parts, and_from, list_all, Entry, AreRows, HasLength, MapKind, is_syllable}
use Rattle.np_versions.proofs.Words.{VersionData, entry_at, kind_in, mapping_in, is_empty, file_kind, file_mapping, has_hangul, decomposition_kind}
use Rattle.np_versions.proofs.Words.{decomposition_mapping, counts, parts, has_depth, full, mark, parts_mark, mapping_mark, row_marks}
use Rattle.np_versions.proofs.MappingLemmas.{full-final, full-mapped, full-more, full-some, flat_map-same}

-- ---- the mapping that counts for the compatibility decomposition is the mapping of the file

length_zero : (xs : List ℕ) → length xs ≡ 0 → xs ≡ []
length_zero [] h = refl
length_zero (x ∷ xs) h = absurd (omega arith)

plain_none : (kind : MapKind) (xs : List ℕ) → HasLength kind (length xs) → counts true kind ≡ false → xs ≡ []
plain_none kind xs fits h = grind (arith, length_zero)

entry_at-fits : (es : List Entry) (c : ℕ) → AreRows es → HasLength (kind_in (entry_at es c)) (length (mapping_in (entry_at es c)))
unfolding entry_at
entry_at-fits [] c h = refl
entry_at-fits (e ∷ es) c h =
    let rest = entry_at-fits es c h.2 in
    grind (arith, cond-true, cond-false)

module _ (v : VersionData) (rows : AreRows v.entries) where
  file_plain : (c : ℕ) → counts true (file_kind v c) ≡ false → file_mapping v c ≡ []
  unfolding file_kind file_mapping
  file_plain c h = plain_none _ _ (entry_at-fits v.entries c rows) h

  plain : (c : ℕ) → counts true (decomposition_kind v c) ≡ false → decomposition_mapping v c ≡ []
  unfolding decomposition_kind decomposition_mapping
  plain c h = grind (arith, both_ways, cond-true, cond-false, file_plain)

  pub parts-mapping : (c : ℕ) → parts v true c ≡ decomposition_mapping v c
  unfolding parts
  parts-mapping c = grind (arith, cond-true, cond-false, plain)

-- ---- the mark of a code point from that of its mapping

module _ (v : VersionData) where
  pub bare_depth : (n c : ℕ) → decomposition_mapping v c ≡ [] → has_depth v n c ≡ true
  unfolding has_depth
  bare_depth n c e = grind arith

  pub bare_full : (n c : ℕ) → parts v true c ≡ [] → full v true n c ≡ c ∷ []
  bare_full n c e = full-final v true n c (ap is_empty e)

  pub zero_depth : (c x : ℕ) (xs : List ℕ) → decomposition_mapping v c ≡ x ∷ xs → has_depth v zero c ≡ false
  unfolding has_depth
  zero_depth c x xs e = ap is_empty e

  pub suc_depth : (n c : ℕ) (xs : List ℕ) → decomposition_mapping v c ≡ xs → has_depth v (suc n) c ≡ list_all (has_depth v n) xs
  unfolding has_depth
  suc_depth n c xs e = ap (list_all (has_depth v n)) e

  pub suc_full : (n c x : ℕ) (xs : List ℕ) → parts v true c ≡ x ∷ xs → full v true (suc n) c ≡ flat_map (full v true n) (x ∷ xs)
  suc_full n c x xs e = full-mapped v true n c (ap is_empty e) ∙ ap (flat_map (full v true n)) e

  mark-at : (n c : ℕ) (xs : List ℕ) → decomposition_mapping v c ≡ xs → parts v true c ≡ xs → mark v n c ≡ mapping_mark v n xs
  unfolding mark mapping_mark parts_mark
  mark-at n c xs e p = grind (arith, bare_depth, bare_full, zero_depth, suc_depth, suc_full)

pub mark-mapping : (v : VersionData) → AreRows v.entries → (n c : ℕ) → mark v n c ≡ mapping_mark v n (decomposition_mapping v c)
mark-mapping v rows n c = mark-at v n c (decomposition_mapping v c) refl (parts-mapping v rows c)

pub mark-file : (v : VersionData) → AreRows v.entries → (n c : ℕ) → (has_hangul v && is_syllable c) ≡ false → mark v n c ≡ mapping_mark v n (mapping_in (entry_at v.entries c))
unfolding decomposition_mapping file_mapping
mark-file v rows n c other = mark-mapping v rows n c ∙ ap (mapping_mark v n) (cond-false _ _ _ other)

-- ---- a mark is 0 exactly where the depth is over the round

module _ (v : VersionData) where
  pub mark-zero : (n c : ℕ) → mark v n c ≡ 0 → has_depth v n c ≡ false
  unfolding mark
  mark-zero n c h = grind (arith, full-some)

  pub mark-more : (n c : ℕ) → 0 < mark v n c → has_depth v n c ≡ true
  unfolding mark
  mark-more n c h = grind arith

  pub mark-deep : (n c : ℕ) → has_depth v n c ≡ false → mark v n c ≡ 0
  unfolding mark
  mark-deep n c h = cond-false _ _ _ h

  pub mark-length : (n c : ℕ) → has_depth v n c ≡ true → mark v n c ≡ min (length (full v true n c)) 65
  unfolding mark
  mark-length n c h = cond-true _ _ _ h

  same_depth : (m n c : ℕ) → mark v m c ≡ mark v n c → has_depth v m c ≡ has_depth v n c
  unfolding mark
  same_depth m n c h = grind (arith, full-some)

-- ---- a round that changes no mark is the last one that changes any

list_all-same : (p q : ℕ → Bool) → ((c : ℕ) → p c ≡ q c) → (xs : List ℕ) → list_all p xs ≡ list_all q xs
list_all-same p q same [] = refl
list_all-same p q same (x ∷ xs) = ap (λ b. b && list_all p xs) (same x) ∙ ap (λ b. q x && b) (list_all-same p q same xs)

module _ (v : VersionData) (n : ℕ) (still : (c : ℕ) → mark v (suc n) c ≡ mark v n c) where
  depth_step : (m : ℕ) → ((c : ℕ) → has_depth v m c ≡ has_depth v n c) → (c : ℕ) → has_depth v (suc m) c ≡ has_depth v n c
  depth_step m before c =
      suc_depth v m c _ refl ∙ list_all-same (has_depth v m) (has_depth v n) before (decomposition_mapping v c) ∙ sym (suc_depth v n c _ refl)
      ∙ same_depth v (suc n) n c (still c)

  settled_depth : (m : ℕ) → n ≤ m → (c : ℕ) → has_depth v m c ≡ has_depth v n c
  settled_depth zero le c = let same : zero ≡ n = omega arith in ap (λ k. has_depth v k c) same
  settled_depth (suc m) le c =
      let step = λ (below : n ≤ m). depth_step m (settled_depth m below) c in grind arith

  settled_full : (m : ℕ) → n ≤ m → (c : ℕ) → has_depth v n c ≡ true → full v true m c ≡ full v true n c
  settled_full zero le c h = let same : zero ≡ n = omega arith in ap (λ k. full v true k c) same
  settled_full (suc m) le c h =
      let step = λ (below : n ≤ m). full-more v true m c (settled_depth m below c ∙ h) ∙ settled_full m below c h in
      grind arith

  settled_parts : (m : ℕ) → n ≤ m → (xs : List ℕ) → parts_mark v m xs ≡ parts_mark v n xs
  unfolding parts_mark
  settled_parts m le xs = grind (arith, list_all-same, settled_depth, flat_map-same, settled_full)

  settled_mapping : (m : ℕ) → n ≤ m → (xs : List ℕ) → mapping_mark v (suc m) xs ≡ mapping_mark v (suc n) xs
  unfolding mapping_mark
  settled_mapping m le xs = grind (arith, settled_parts)

  map-same : (f g : List ℕ → ℕ) → ((xs : List ℕ) → f xs ≡ g xs) → (es : List Entry) → map (λ e. f e.mapping) es ≡ map (λ e. g e.mapping) es
  map-same f g same [] = refl
  map-same f g same (e ∷ es) = ap (λ x. x ∷ map (λ e. f e.mapping) es) (same e.mapping) ∙ ap (λ l. g e.mapping ∷ l) (map-same f g same es)

  pub settled_rows : (m : ℕ) → n ≤ m → row_marks v (suc m) ≡ row_marks v (suc n)
  unfolding row_marks
  settled_rows m le = map-same (mapping_mark v (suc m)) (mapping_mark v (suc n)) (settled_mapping m le) v.entries

-- ---- where the rows' marks are the same, the marks of all code points are

map_at : (f g : List ℕ → ℕ) → f [] ≡ g [] → (es : List Entry) (c : ℕ) → map (λ e. f e.mapping) es ≡ map (λ e. g e.mapping) es → f (mapping_in (entry_at es c)) ≡ g (mapping_in (entry_at es c))
unfolding entry_at
map_at f g none [] c h = none
map_at f g none (e ∷ es) c h =
    let rest = map_at f g none es c (cc) in
    grind (arith, cond-true, cond-false)

pub marks-from_rows : (v : VersionData) → AreRows v.entries → (m n c : ℕ) → row_marks v m ≡ row_marks v n → (has_hangul v && is_syllable c) ≡ false → mark v m c ≡ mark v n c
unfolding row_marks mapping_mark
marks-from_rows v rows m n c h other =
    mark-file v rows m c other ∙ map_at (mapping_mark v m) (mapping_mark v n) refl v.entries c h ∙ sym (mark-file v rows n c other)

-- ---- a mark that is not 0 stays in the rounds that follow

list_all-weaker : (p q : ℕ → Bool) → ((c : ℕ) → p c ≡ true → q c ≡ true) → (xs : List ℕ) → list_all p xs ≡ true → list_all q xs ≡ true
list_all-weaker p q weaker [] all = refl
list_all-weaker p q weaker (x ∷ xs) all =
    let halves = and_parts (p x) (list_all p xs) all in and_from _ _ (weaker x halves.0) (list_all-weaker p q weaker xs halves.1)

module _ (v : VersionData) where
  depth_more : (n c : ℕ) → has_depth v n c ≡ true → has_depth v (suc n) c ≡ true
  unfolding has_depth
  depth_more zero c h = grind arith
  depth_more (suc n) c h = list_all-weaker (has_depth v n) (has_depth v (suc n)) (depth_more n) (decomposition_mapping v c) h

  kept_parts : (n : ℕ) (xs : List ℕ) → 0 < parts_mark v n xs → parts_mark v (suc n) xs ≡ parts_mark v n xs
  unfolding parts_mark
  kept_parts n xs some = grind (arith, list_all-weaker, depth_more, flat_map-same, full-more)

  pub kept_mark : (n : ℕ) (xs : List ℕ) → 0 < mapping_mark v n xs → mapping_mark v (suc n) xs ≡ mapping_mark v n xs
  unfolding mapping_mark
  kept_mark n xs some = grind (arith, kept_parts)
