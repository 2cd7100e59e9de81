-- The loops over the rows and over the parts of a mapping.
use Rattle.std.proofs.Common.{◌≡◌, ◌≢◌, ℕ, zero, suc, ◌+◌, ◌-◌, ◌%◌, ◌<◌, ◌≤◌, Bool, true, false, ◌&&◌, min, List, [], ◌∷◌, ◌++◌, map, flat_map, length, take, get_or, None, refl, sym, ap, ◌∙◌, arith, length-append, append-nil, cond, eqb, drop, Option, Some, subst}
use Rattle.np_versions.proofs.Words.{cond-true, cond-false, and_from, eqb-false, ne_eqb, le-leb, lt-leb, take_more, take_all, length-map, length-drop}
use Rattle.np_versions.proofs.Words.{drop-drop, drop_at, drop-map, flat_map-append, min-le_right, list_all, slice_get, Entry, AreRows, is_syllable, VersionData}
use Rattle.np_versions.proofs.Words.{entry_at, mapping_in, is_empty, has_hangul, has_depth, full, mark, parts_mark, mapping_mark, row_marks, syllable_depth}
use Rattle.np_versions.proofs.Words.{syllable_mark, first_row, is_marked, take-add, option_map, before_byte, after_byte, nat_tests}
use Rattle.std.proofs.lemmas.List.Folds.{list_all_at, list_all_more}
use Rattle.np_code_points.proofs.LineGrammar.{joined_some, joined_none}
use Rattle.np_versions.proofs.RowLemmas.{length-empty}
use Rattle.np_versions.proofs.DepthLemmas.{mark-file, mark-zero, mark-more, mark-length, kept_mark}

-- ---- the marks of the rows, one by one

marks_at : (f : List ℕ → ℕ) (es : List Entry) (at d : ℕ) → at < length es → get_or (map (λ e. f e.mapping) es) at d ≡ f (mapping_in (slice_get es at))
marks_at f [] at d lt = absurd (omega arith)
marks_at f (e ∷ es) zero d lt = refl
marks_at f (e ∷ es) (suc at) d lt = marks_at f es at d (omega arith)

module _ (v : VersionData) (n : ℕ) where
  pub length-row_marks : length (row_marks v n) ≡ length v.entries
  unfolding row_marks
  length-row_marks = length-map v.entries (λ e. mapping_mark v n e.mapping)

  pub row_marks_at : (at d : ℕ) → at < length v.entries → get_or (row_marks v n) at d ≡ mapping_mark v n (mapping_in (slice_get v.entries at))
  unfolding row_marks
  row_marks_at at d lt = marks_at (mapping_mark v n) v.entries at d lt

  pub row_marks_more : (at m : ℕ) (xs : List ℕ) → at < length v.entries → xs ≡ take at (row_marks v n) → m ≡ mapping_mark v n (mapping_in (slice_get v.entries at)) → xs ++ m ∷ [] ≡ take (at + 1) (row_marks v n)
  row_marks_more at m xs lt before here = grind (arith, length-row_marks, row_marks_at at 0 lt, take_more (row_marks v n) at 0)

  pub row_marks_all : (at : ℕ) (xs : List ℕ) → length v.entries ≤ at → xs ≡ take at (row_marks v n) → xs ≡ row_marks v n
  row_marks_all at xs le h = grind (arith, length-row_marks, take_all at (row_marks v n))

pub mark-bare : (v : VersionData) (n : ℕ) (xs : List ℕ) → is_empty xs ≡ true → mapping_mark v n xs ≡ 1
unfolding mapping_mark
mark-bare v n [] h = refl
mark-bare v n (x ∷ xs) h = cc

pub deep_mapping : (v : VersionData) (xs : List ℕ) → is_empty xs ≡ false → mapping_mark v 0 xs ≡ 0
unfolding mapping_mark
deep_mapping v [] h = cc
deep_mapping v (x ∷ xs) h = refl

pub next_parts : (v : VersionData) (n : ℕ) (xs : List ℕ) → is_empty xs ≡ false → mapping_mark v (n + 1) xs ≡ parts_mark v n xs
unfolding mapping_mark
next_parts v n [] h = cc
next_parts v n (x ∷ xs) h = let same : n + 1 ≡ suc n = omega arith in ap (λ k. mapping_mark v k (x ∷ xs)) same

-- ---- the parts of a mapping, one by one

pub record IsSum (v : VersionData) (n : ℕ) (xs : List ℕ) (s : ℕ) : Type 0 where
  pub known : list_all (has_depth v n) xs ≡ true
  pub total : s ≡ min (length (flat_map (full v true n) xs)) 65

module _ (v : VersionData) (n : ℕ) where
  flat_map-last : (xs : List ℕ) (x : ℕ) → length (flat_map (full v true n) (xs ++ x ∷ [])) ≡ length (flat_map (full v true n) xs) + length (full v true n x)
  flat_map-last xs x =
      ap length (flat_map-append (full v true n) xs (x ∷ []) ∙ ap (λ l. flat_map (full v true n) xs ++ l) (append-nil (full v true n x)))
      ∙ length-append (flat_map (full v true n) xs) (full v true n x)

  pub IsSum-more : (xs : List ℕ) (i s m : ℕ) → i < length xs → IsSum v n (take i xs) s → m ≡ mark v n (get_or xs i 0) → 0 < m → IsSum v n (take (i + 1) xs) (min (s + m) 65)
  IsSum-more xs i s m lt before is more =
      let known = mark-more v n (get_or xs i 0) (omega arith) in
      grind (arith, known, before.known, before.total, mark-length v n (get_or xs i 0) known, list_all_more (has_depth v n) xs i 0 lt, take_more xs i 0 lt, flat_map-last (take i xs) (get_or xs i 0), and_from)

  pub parts-fail : (xs : List ℕ) (i : ℕ) → i < length xs → mark v n (get_or xs i 0) ≡ 0 → parts_mark v n xs ≡ 0
  unfolding parts_mark
  parts-fail xs i lt h = grind (arith, nat_tests, list_all_at (has_depth v n) xs i 0 lt, mark-zero v n (get_or xs i 0) h)

  pub parts-done : (xs : List ℕ) (i s : ℕ) → length xs ≤ i → IsSum v n (take i xs) s → parts_mark v n xs ≡ s
  unfolding parts_mark
  parts-done xs i s le is = grind (arith, take_all i xs le, is.known, is.total)

  pub mark-bound : (c : ℕ) → mark v n c ≤ 65
  unfolding mark
  mark-bound c = grind (arith, nat_tests, min-le_right (length (full v true n c)) 65)

-- ---- the mark of a code point that is no syllable of the arithmetic

module _ (v : VersionData) (rows : AreRows v.entries) (n c : ℕ) (other : (has_hangul v && is_syllable c) ≡ false) where
  pub mark-none : entry_at v.entries c ≡ None → mark v n c ≡ 1
  unfolding mapping_mark
  mark-none h = mark-file v rows n c other ∙ ap (λ o. mapping_mark v n (mapping_in o)) h

  pub mark-some : (at d : ℕ) → at < length v.entries → slice_get v.entries at ≡ entry_at v.entries c → get_or (row_marks v n) at d ≡ mark v n c
  mark-some at d lt h = row_marks_at v n at d lt ∙ ap (λ o. mapping_mark v n (mapping_in o)) h ∙ sym (mark-file v rows n c other)

-- ---- the mark of a syllable

pub depth_even : (c : ℕ) → (c - 0xAC00) % 28 ≡ 0 → syllable_depth c ≡ 1
unfolding syllable_depth
depth_even c h = grind (arith, nat_tests)

pub depth_odd : (c : ℕ) → (c - 0xAC00) % 28 ≢ 0 → syllable_depth c ≡ 2
unfolding syllable_depth
depth_odd c h = cond-false _ 1 2 (ne_eqb ((c - 0xAC00) % 28) 0 h)

pub mark_shown : (n c d : ℕ) → d ≡ syllable_depth c → d ≤ n → d + 1 ≡ syllable_mark n c
unfolding syllable_mark
mark_shown n c d same le = ap (λ k. k + 1) same ∙ sym (cond-true _ _ _ (le-leb (syllable_depth c) n (omega arith)))

pub mark_hidden : (n c d : ℕ) → d ≡ syllable_depth c → n < d → 0 ≡ syllable_mark n c
unfolding syllable_mark
mark_hidden n c d same lt = sym (cond-false _ _ _ (lt-leb (syllable_depth c) n (omega arith)))

-- ---- the known marks of a round are those of the next

known_step : (t : Bool) (x y : ℕ) (before ys : List ℕ) → (t ≡ false → y ≡ x) → before ≡ take (length before) ys → cond t [] (x ∷ before) ≡ take (length (cond t [] (x ∷ before))) (y ∷ ys)
known_step true x y before ys same h = refl
known_step false x y before ys same h = ap (λ r. x ∷ r) h ∙ ap (λ z. z ∷ take (length before) ys) (sym (same refl))

known_marks : (f g : Entry → ℕ) → ((e : Entry) → eqb (f e) 0 ≡ false → g e ≡ f e) → (es : List Entry) → before_byte 0 (map f es) ≡ take (length (before_byte 0 (map f es))) (map g es)
known_marks f g kept [] = refl
known_marks f g kept (e ∷ es) =
    known_step (eqb (f e) 0) (f e) (g e) (before_byte 0 (map f es)) (map g es) (kept e) (known_marks f g kept es)

glued : (marks done more : List ℕ) → done ≡ take (length done) marks → more ≡ take (length more) (drop (length done) marks) → done ++ more ≡ take (length (done ++ more)) marks
glued marks done more first then = grind (arith, first, then, take-add (length done) (length more) marks, length-append done more)

later_is : (left later : List ℕ) → after_byte 0 left ≡ Some later → drop (length (before_byte 0 left) + 1) left ≡ later
later_is left later h =
    let known = before_byte 0 left in
    sym (drop-drop 1 (length known) left) ∙ ap (λ l. drop 1 (drop (length known) l)) (joined_some 0 left later h)
    ∙ ap (drop 1) (drop_at known (0 ∷ later) (length known) refl)

-- the marks that a round has made so far, and those of the round before that are left
pub record IsRound (v : VersionData) (n : ℕ) (next left : List ℕ) : Type 0 where
  pub made : next ≡ take (length next) (row_marks v (n + 1))
  pub rest : left ≡ drop (length next) (row_marks v n)

module _ (v : VersionData) (n : ℕ) where
  kept_row : (e : Entry) → eqb (mapping_mark v n e.mapping) 0 ≡ false → mapping_mark v (n + 1) e.mapping ≡ mapping_mark v n e.mapping
  kept_row e h =
      let after : n + 1 ≡ suc n = omega arith in
      ap (λ k. mapping_mark v k e.mapping) after ∙ kept_mark v n e.mapping (let some = eqb-false (mapping_mark v n e.mapping) 0 h in omega arith)

  kept_rows : (k : ℕ) (left : List ℕ) → left ≡ drop k (row_marks v n) → before_byte 0 left ≡ take (length (before_byte 0 left)) (drop k (row_marks v (n + 1)))
  unfolding row_marks
  kept_rows k left is =
      let f : Entry → ℕ = λ e. mapping_mark v n e.mapping in
      let g : Entry → ℕ = λ e. mapping_mark v (n + 1) e.mapping in
      let rows = drop k v.entries in
      subst (λ l. before_byte 0 l ≡ take (length (before_byte 0 l)) (drop k (map g v.entries))) (sym (is ∙ drop-map f k v.entries))
      (known_marks f g kept_row rows ∙ ap (λ l. take (length (before_byte 0 (map f rows))) l) (sym (drop-map g k v.entries)))

  module _ (next left known : List ℕ) (is : IsRound v n next left) (more : known ≡ next ++ before_byte 0 left) where
    known_made : known ≡ take (length known) (row_marks v (n + 1))
    known_made =
        more ∙ glued (row_marks v (n + 1)) next (before_byte 0 left) is.made (kept_rows (length next) left is.rest)
        ∙ ap (λ l. take (length l) (row_marks v (n + 1))) (sym more)

    length-known : length known ≡ length next + length (before_byte 0 left)
    length-known = grind (arith, more, length-append next (before_byte 0 left))

    length-left : length left ≡ length v.entries - length next
    length-left = grind (arith, is.rest, length-drop (length next) (row_marks v n), length-row_marks v n)

    pub known_within : (later : List ℕ) → after_byte 0 left ≡ Some later → length known < length v.entries
    known_within later found = grind (arith, joined_some 0 left later found, length-append (before_byte 0 left) (0 ∷ later), length-known, length-left)

    pub round_more : (later : List ℕ) (m : ℕ) → after_byte 0 left ≡ Some later → m ≡ mapping_mark v (n + 1) (mapping_in (slice_get v.entries (length known))) → IsRound v n (known ++ m ∷ []) later
    round_more later m found here =
        let front = length (before_byte 0 left) in
        let count : length (known ++ m ∷ []) ≡ length known + 1 = length-append known (m ∷ []) in
        let known_count = length-known in
        let place : length next + (front + 1) ≡ length (known ++ m ∷ []) = omega arith in
        record {
          made =
              row_marks_more v (n + 1) (length known) m known (known_within later found) known_made here
              ∙ ap (λ k. take k (row_marks v (n + 1))) (sym count);
          rest =
              sym (later_is left later found) ∙ ap (drop (front + 1)) is.rest ∙ drop-drop (front + 1) (length next) (row_marks v n)
              ∙ ap (λ k. drop k (row_marks v n)) place;
        }

    pub round_done : after_byte 0 left ≡ None → known ≡ row_marks v (n + 1)
    round_done none = row_marks_all v (n + 1) (length known) known (grind (arith, ap length (joined_none 0 left none), length-known, length-left)) known_made

-- ---- the first row with a mark, by how many stand before it

first_step : (t : Bool) (x : ℕ) (e : Entry) (es : List Entry) (before : List ℕ) (o : Option ℕ) → option_map (λ e. e.first) (slice_get es (length before)) ≡ o → option_map (λ e. e.first) (slice_get (e ∷ es) (length (cond t [] (x ∷ before)))) ≡ cond t (Some e.first) o
first_step true x e es before o h = refl
first_step false x e es before o h = h

first_before : (f : Entry → ℕ) (m : ℕ) (es : List Entry) → option_map (λ e. e.first) (slice_get es (length (before_byte m (map f es)))) ≡ first_row (λ e. eqb (f e) m) es
unfolding first_row
first_before f m [] = refl
first_before f m (e ∷ es) =
    first_step (eqb (f e) m) (f e) e es (before_byte m (map f es)) (first_row (λ e. eqb (f e) m) es) (first_before f m es)

pub first_cut : (v : VersionData) (n m : ℕ) → option_map (λ e. e.first) (slice_get v.entries (length (before_byte m (row_marks v n)))) ≡ first_row (is_marked v n m) v.entries
unfolding row_marks
first_cut v n m = first_before (λ e. mapping_mark v n e.mapping) m v.entries

-- what the checks of functions cite
pub ruleset round_answers = (length-empty, mark-bare, next_parts)
