-- The marks of the syllables of the Hangul arithmetic.
use Rattle.std.proofs.Common.{◌≡◌, ℕ, zero, suc, ◌+◌, ◌-◌, ◌%◌, ◌≤◌, true, false, [], ◌∷◌, ◌++◌, flat_map, length, refl, sym, ap, ◌∙◌, inl, inr, arith, ◌==◌, ◌≢◌, ◌<◌, ◌&&◌, List, Option, Some, None, subst, eqb, ◌⊎◌, Bool}
use Rattle.np_versions.proofs.Words.{cases_eq, cond-true, cond-false, cond_both, and_from, and_left, eqb-true, list_all, AreRows, Entry, is_syllable}
use Rattle.np_versions.proofs.Words.{syllable_pair, VersionData, file_mapping, has_hangul, decomposition_mapping, entry_at, mapping_in, has_depth, full, marked}
use Rattle.np_versions.proofs.Words.{mark, parts_mark, mapping_mark, syllable_depth, syllable_mark, row_marks, first_row, is_marked, IsTooDeep, IsTooLong}
use Rattle.np_versions.proofs.Words.{IsFirst, nat_tests}
use Rattle.std.specs.Cmp.Lexicographic.{pointwise}
use Rattle.np_versions.proofs.HangulLemmas.{decomposition_mapping-on, hangul_parts, IsLv, IsLvt, jamo_bare, lv_shape, lvt_shape, shape_of, syllable_row}
use Rattle.np_versions.proofs.MappingLemmas.{is_empty-true, decomposes_full, full-only}
use Rattle.np_versions.proofs.DepthLemmas.{bare_depth, bare_full, parts-mapping, suc_depth, suc_full, zero_depth, mark-mapping, mark-file, marks-from_rows}
use Rattle.np_versions.proofs.DepthLemmas.{settled_rows, mark-zero, mark-more, mark-deep, mark-length}
use Rattle.np_versions.proofs.RowLemmas.{entry_at-row, entry_at-within, entry_at-hit, entry_at-miss, entry_at-nil, found-above, file_mapping-found}
use Rattle.np_versions.proofs.RoundLemmas.{depth_even, depth_odd, mark_hidden, mark_shown}

-- ---- syllables have no mapping in the file

pub syllable-bare : (v : VersionData) (c : ℕ) → has_hangul v ≡ true → is_syllable c ≡ true → file_mapping v c ≡ []
syllable-bare v c on h = is_empty-true _ (hangul_parts v c (syllable_row v c on h)).mapping

pub depth_two : (c : ℕ) → (1 ≤ syllable_depth c) × (syllable_depth c ≤ 2)
unfolding syllable_depth
depth_two c = cond_both ((c - 0xAC00) % 28 == 0) 1 2 (λ d. (1 ≤ d) × (d ≤ 2)) (λ e. (omega arith, omega arith)) (λ e. (omega arith, omega arith))

pub syllable_mark-late : (n c : ℕ) → 2 ≤ n → syllable_mark n c ≡ syllable_depth c + 1
syllable_mark-late n c late = let bounds = depth_two c in sym (mark_shown n c (syllable_depth c) refl (omega arith))

module _ (v : VersionData) (rows : AreRows v.entries) (on : has_hangul v ≡ true) where
  -- a list of two code points without mappings
  bare_two : (n a b : ℕ) → decomposition_mapping v a ≡ [] → decomposition_mapping v b ≡ [] → (list_all (has_depth v n) (a ∷ b ∷ []) ≡ true) × (flat_map (full v true n) (a ∷ b ∷ []) ≡ a ∷ b ∷ [])
  bare_two n a b first second =
      let full_a = bare_full v n a (parts-mapping v rows a ∙ first) in
      let full_b = bare_full v n b (parts-mapping v rows b ∙ second) in (
        and_from _ _ (bare_depth v n a first) (and_from _ _ (bare_depth v n b second) refl),
        ap (λ l. l ++ (full v true n b ++ [])) full_a ∙ ap (λ l. (a ∷ []) ++ (l ++ [])) full_b,
      )

  syllable_mapping : (c : ℕ) → is_syllable c ≡ true → decomposition_mapping v c ≡ syllable_pair c
  syllable_mapping c h = decomposition_mapping-on v c (and_from _ _ on h)

  -- <L, V>
  lv : (n c : ℕ) (is : IsLv c) → (has_depth v (suc n) c ≡ true) × (full v true (suc n) c ≡ is.leading ∷ is.vowel ∷ [])
  lv n c is =
      let pair = syllable_mapping c is.syllable ∙ is.pair in
      let two = bare_two n is.leading is.vowel (jamo_bare v is.leading on is.first) (jamo_bare v is.vowel on is.second) in
      (suc_depth v n c _ pair ∙ two.0, suc_full v n c _ _ (parts-mapping v rows c ∙ pair) ∙ two.1)

  mark_zero : (c : ℕ) → is_syllable c ≡ true → mark v zero c ≡ 0
  mark_zero c h = let shape = shape_of c h in mark-deep v zero c (zero_depth v c _ _ (syllable_mapping c h ∙ shape.pair))

  mark_lv : (n c : ℕ) → IsLv c → mark v (suc n) c ≡ 2
  unfolding mark
  mark_lv n c is = grind (arith, lv n c is)

  -- <LV, T>
  mark_parts : (n c : ℕ) (is : IsLvt c) → is_syllable c ≡ true → mark v (suc n) c ≡ parts_mark v n (is.base ∷ is.last ∷ [])
  unfolding mapping_mark
  mark_parts n c is h = mark-mapping v rows (suc n) c ∙ ap (mapping_mark v (suc n)) (syllable_mapping c h ∙ is.pair)

  mark_lvt : (n c : ℕ) → IsLvt c → is_syllable c ≡ true → syllable_depth c ≡ 2 → mark v (suc n) c ≡ syllable_mark (suc n) c
  unfolding parts_mark
  mark_lvt zero c is h two =
      let base = is.front in
      let shape = shape_of is.base base.syllable in
      mark_parts zero c is h
      ∙ ap (λ b. marked b (length (flat_map (full v true zero) (is.base ∷ is.last ∷ [])))) (and_left _ _ (zero_depth v is.base _ _ (syllable_mapping is.base base.syllable ∙ shape.pair)))
      ∙ mark_hidden 1 c 2 (sym two) (omega arith)
  mark_lvt (suc n) c is h two =
      let bare = jamo_bare v is.last on is.back in
      let front = lv n is.base is.front in
      let back = bare_full v (suc n) is.last (parts-mapping v rows is.last ∙ bare) in
      let known = and_from _ _ front.0 (and_from _ _ (bare_depth v (suc n) is.last bare) refl) in
      mark_parts (suc n) c is h
      ∙ ap (λ b. marked b (length (flat_map (full v true (suc n)) (is.base ∷ is.last ∷ [])))) known
      ∙ ap (λ l. marked true (length (l ++ (full v true (suc n) is.last ++ [])))) front.1
      ∙ ap (λ l. marked true (length ((is.front.leading ∷ is.front.vowel ∷ []) ++ (l ++ [])))) back
      ∙ mark_shown (suc (suc n)) c 2 (sym two) (omega arith)

  -- ---- in one formula

  pub mark-syllable : (n c : ℕ) → is_syllable c ≡ true → mark v n c ≡ syllable_mark n c
  mark-syllable zero c h = let bounds = depth_two c in mark_zero c h ∙ mark_hidden zero c (syllable_depth c) refl (omega arith)
  mark-syllable (suc n) c h =
      elim (cases_eq ((c - 0xAC00) % 28) 0) [
        | inl even ↦ mark_lv n c (lv_shape c h even) ∙ mark_shown (suc n) c 1 (sym (depth_even c even)) (omega arith)
        | inr odd ↦ mark_lvt n c (lvt_shape c h odd) h (depth_odd c odd)
      ]

  -- from round 2 on
  mark-syllable_still : (n c : ℕ) → is_syllable c ≡ true → 2 ≤ n → mark v (suc n) c ≡ mark v n c
  mark-syllable_still n c h late =
      mark-syllable (suc n) c h ∙ syllable_mark-late (suc n) c (omega arith) ∙ sym (syllable_mark-late n c late) ∙ sym (mark-syllable n c h)

-- ---- the first row that passes

-- a row that passes, found at its own first code point
pub record IsAt (p : Entry → Bool) (es : List Entry) (c : ℕ) : Type 0 where
  pub row : Entry
  pub found : entry_at es c ≡ Some row
  pub passes : p row ≡ true
  pub first : row.first ≡ c

first_row-hit : (p : Entry → Bool) (e : Entry) (es : List Entry) → p e ≡ true → first_row p (e ∷ es) ≡ Some e.first
unfolding first_row
first_row-hit p e es h = cond-true _ _ _ h

first_row-miss : (p : Entry → Bool) (e : Entry) (es : List Entry) → p e ≡ false → first_row p (e ∷ es) ≡ first_row p es
unfolding first_row
first_row-miss p e es h = cond-false _ _ _ h

first_row-nil : (p : Entry → Bool) → first_row p [] ≡ None
unfolding first_row
first_row-nil p = refl

module _ (p : Entry → Bool) where
  first_row-at : (es : List Entry) (c : ℕ) → AreRows es → first_row p es ≡ Some c → IsAt p es c
  first_row-at [] c rows h = let none = first_row-nil p in absurd (cc)
  first_row-at (e ∷ es) c rows h =
      grind (arith, nat_tests, first_row-hit p e es, first_row-miss p e es, first_row-at es c rows.2, entry_at-hit e es c, entry_at-miss e es c, found-above e es c, rows.0.rises)

  -- whatever passes is no smaller than the answer, which there is
  abbrev IsUpTo : Option ℕ → ℕ → Type 0
  IsUpTo None d = ⊥
  IsUpTo (Some c) d = c ≤ d

  first_row-least : (es : List Entry) (d : ℕ) → AreRows es → IsAt p es d → IsUpTo (first_row p es) d
  first_row-least [] d rows is = let none = entry_at-nil d in let some = is.found in absurd (cc)
  first_row-least (e ∷ es) d rows is =
      grind (arith, nat_tests, first_row-hit p e es, first_row-miss p e es, first_row-least es d rows.2, entry_at-hit e es d, entry_at-miss e es d, found-above e es d, rows.0.rises)

  pub first_of : (es : List Entry) → AreRows es → (o : Option ℕ) → first_row p es ≡ o → IsFirst (IsAt p es) o
  first_of es rows None h = λ c is. subst (λ o. IsUpTo o c) h (first_row-least es c rows is)
  first_of es rows (Some c) h =
      record {
        holds = first_row-at es c rows h;
        least = λ d is. subst (λ o. IsUpTo o d) h (first_row-least es d rows is);
      }

-- ---- the last round

module _ (v : VersionData) (rows : AreRows v.entries) where
  still : (n c : ℕ) → 2 ≤ n → row_marks v (suc n) ≡ row_marks v n → mark v (suc n) c ≡ mark v n c
  still n c late same = grind (arith, nat_tests, mark-syllable_still v rows, marks-from_rows v rows (suc n) n c same)

  pub settled : (n : ℕ) → 2 ≤ n → n < 32 → row_marks v (suc n) ≡ row_marks v n → row_marks v (suc n) ≡ row_marks v 32
  settled n late early same = sym (settled_rows v n (λ c. still n c late same) 31 (omega arith))

  same_items : (xs ys : List ℕ) → pointwise eqb xs ys ≡ true → xs ≡ ys
  same_items [] [] h = refl
  same_items [] (y ∷ ys) h = cc
  same_items (x ∷ xs) [] h = cc
  same_items (x ∷ xs) (y ∷ ys) h = grind (arith, nat_tests, same_items xs ys)

  -- the same as a loop finds it: the lists that it compares are the marks of two rounds
  pub settled_at : (n : ℕ) (next last xs ys : List ℕ) → 2 ≤ n → n < 32 → next ≡ row_marks v (n + 1) → last ≡ row_marks v n → xs ≡ next → ys ≡ last → pointwise eqb xs ys ≡ true → next ≡ row_marks v 32
  settled_at n next last xs ys late early is_next is_last is_xs is_ys same =
      let after : n + 1 ≡ suc n = omega arith in
      let marks = is_next ∙ ap (row_marks v) after in
      marks ∙ settled n late early (sym marks ∙ sym is_xs ∙ same_items xs ys same ∙ is_ys ∙ is_last)

-- ---- a mark other than those of a code point without a mapping and of a syllable is that of a row

pub record IsTelling (m : ℕ) : Type 0 where
  pub no_bare : 1 ≢ m
  pub no_syllable : (m ≡ 0) ⊎ (3 < m)

IsFirst-along : (P Q : ℕ → Type 0) → ((c : ℕ) → P c → Q c) → ((c : ℕ) → Q c → P c) → (o : Option ℕ) → IsFirst P o → IsFirst Q o
IsFirst-along P Q there back None h = λ c q. h c (back c q)
IsFirst-along P Q there back (Some c) h = record { holds = there c h.holds; least = λ d q. h.least d (back d q) }

module _ (v : VersionData) (rows : AreRows v.entries) (n m : ℕ) (late : 2 ≤ n) (telling : IsTelling m) where
  marked_nonempty : (xs : List ℕ) → mapping_mark v n xs ≡ m → xs ≢ []
  unfolding mapping_mark
  marked_nonempty xs h e = telling.no_bare (sym (ap (mapping_mark v n) e) ∙ h)

  no_syllable : (c : ℕ) → mark v n c ≡ m → (has_hangul v && is_syllable c) ≡ true → ⊥
  no_syllable c h hangul = grind (arith, nat_tests, mark-syllable v rows, syllable_mark-late n c late, depth_two c, telling.no_syllable)

  row_found : (c : ℕ) (o : Option Entry) → entry_at v.entries c ≡ o → mapping_mark v n (mapping_in o) ≡ m → IsAt (is_marked v n m) v.entries c
  row_found c None found h = absurd (marked_nonempty [] h refl)
  row_found c (Some e) found h =
      grind (arith, nat_tests, entry_at-row v.entries c e rows found, entry_at-within v.entries c e found, marked_nonempty e.mapping h)

  pub at_row : (c : ℕ) → mark v n c ≡ m → IsAt (is_marked v n m) v.entries c
  at_row c h = grind (arith, nat_tests, no_syllable c h, row_found c _ refl, mark-file v rows n c)

  pub from_row : (c : ℕ) → IsAt (is_marked v n m) v.entries c → mark v n c ≡ m
  from_row c is =
      let value = eqb-true _ m is.passes in
      grind (arith, nat_tests, marked_nonempty is.row.mapping value, file_mapping-found v c is.row is.found, syllable-bare v c, mark-file v rows n c, is.found)

  first_marked : IsFirst (λ c. mark v n c ≡ m) (first_row (is_marked v n m) v.entries)
  first_marked =
      IsFirst-along (IsAt (is_marked v n m) v.entries) (λ c. mark v n c ≡ m) from_row at_row _
      (first_of (is_marked v n m) v.entries rows _ refl)

-- ---- what the marks 0 and 65 of the last round tell

too_long-mark : (v : VersionData) (c : ℕ) → mark v 32 c ≡ 65 → IsTooLong v c
too_long-mark v c h = grind (arith, mark-more v 32 c, mark-length v 32 c, decomposes_full v true 32 c)

mark-too_long : (v : VersionData) (c : ℕ) → IsTooLong v c → mark v 32 c ≡ 65
mark-too_long v c is = grind (arith, mark-length v 32 c is.shallow, ap length (full-only v true 32 c is.full is.shallow is.decomposes))

module _ (v : VersionData) (rows : AreRows v.entries) where
  pub first_too_deep : (o : Option ℕ) → o ≡ first_row (is_marked v 32 0) v.entries → IsFirst (IsTooDeep v) o
  first_too_deep o h =
      subst (IsFirst (IsTooDeep v)) (sym h)
      (IsFirst-along _ (IsTooDeep v) (λ c h. record { deep = mark-zero v 32 c h }) (λ c is. mark-deep v 32 c is.deep) _
      (first_marked v rows 32 0 (omega arith) (record { no_bare = λ h. absurd (omega arith); no_syllable = inl refl })))

  pub first_too_long : (o : Option ℕ) → o ≡ first_row (is_marked v 32 65) v.entries → IsFirst (IsTooLong v) o
  first_too_long o h =
      subst (IsFirst (IsTooLong v)) (sym h)
      (IsFirst-along _ (IsTooLong v) (too_long-mark v) (mark-too_long v) _
      (first_marked v rows 32 65 (omega arith) (record { no_bare = λ h. absurd (omega arith); no_syllable = inr (omega arith) })))
