-- What the tables cite: full decompositions, what every table answers, syllables, and walks over lists.
use Rattle.std.proofs.Common.{◌≡◌, ℕ, ◌-◌, Bool, true, false, not, ◌&&◌, List, [], ◌∷◌, Some, ◌∙◌, arith, ◌<◌, flat_map, if◌then◌else◌, None, Option, IfSome}
use Rattle.std.proofs.Common.{IfNone, sym, ap, subst, inl, inr, ◌++◌, refl, eqb-true, ◌≤◌, length, get_or, take, drop, chars, IsUtf8}
use Rattle.np_versions.proofs.Words.{cond-true, cond-false, and_parts, and_cases, or_from, or_left, or_right, not-false, not-true, and_from, Entry, is_syllable}
use Rattle.np_versions.proofs.Words.{syllable_pair, VersionData, entry_at, is_empty, file_kind, file_mapping, has_hangul, decomposition_kind}
use Rattle.np_versions.proofs.Words.{decomposition_mapping, counts, is_final, parts, full, full_of, table_full, AreRows, mapping_in, IsLent, IsCompositeOf}
use Rattle.np_versions.proofs.Words.{composite, IsSound, Composite, Lists, AreOfFile, both_ways, is_among, NeverFalls, ComposesTo, class_of, IsAscii}
use Rattle.np_versions.proofs.Words.{IsCharBoundary, get_or_default, take-append-drop, chars-append, chars-IsAscii, encodes-IsAscii, IsCharBoundary-from_take}
use Rattle.np_versions.proofs.Words.{IsUtf8-drop, IsUtf8-from_ascii, IsPast, nat_tests}
use Rattle.np_versions.proofs.RowLemmas.{file_mapping-found, file_kind-found, mapped-off}
use Rattle.np_versions.proofs.MappingLemmas.{IsFullDecomposition-full_of, full_of-only, full_of-final, full_of-mapped, parts-cases}
use Rattle.np_versions.proofs.CompositeLemmas.{cases_Option, composite-some, composite_from, primary-syllable}
use Rattle.np_versions.proofs.HangulLemmas.{decomposition_mapping-on, IsJamo, IsLv, by_arithmetic, decomposition_kind-on, jamo_bare, leading_jamo, lv_shape}
use Rattle.np_versions.proofs.HangulLemmas.{trailing_jamo, vowel_jamo}
use Rattle.np_code_points.proofs.HangulLemmas.{pair_exists, pair_kinds}
use Rattle.np_versions.specs.QuickSpans.{Walks}

-- ---- full decompositions level by level

module _ (v : VersionData) (compat : Bool) where
  pub full-bottom : (n c : ℕ) → n ≡ 0 → full v compat n c ≡ c ∷ []
  unfolding full
  full-bottom n c h = grind arith

  pub full-kept : (n c : ℕ) → parts v compat c ≡ [] → full v compat n c ≡ c ∷ []
  unfolding full
  full-kept n c h = grind (arith, cond-true)

  pub full-level : (n c : ℕ) (xs : List ℕ) → 0 < n → parts v compat c ≡ xs → is_empty xs ≡ false → full v compat n c ≡ flat_map (full v compat (n - 1)) xs
  unfolding full
  full-level n c xs lt h some = grind (arith, cond-false)

  -- ---- the mapping that counts

  pub parts-syllable : (c : ℕ) → has_hangul v ≡ true → is_syllable c ≡ true → parts v compat c ≡ syllable_pair c
  unfolding parts decomposition_kind decomposition_mapping
  parts-syllable c on h = grind (arith, and_from, cond-true)

  pub parts-file : (c : ℕ) → (has_hangul v && is_syllable c) ≡ false → parts v compat c ≡ (if counts compat (file_kind v c) then file_mapping v c else [])
  unfolding parts decomposition_kind decomposition_mapping
  parts-file c off = grind (arith, cond-false)

  pub parts-passed : (c : ℕ) → (has_hangul v && is_syllable c) ≡ false → counts compat (file_kind v c) ≡ false → parts v compat c ≡ []
  parts-passed c off on = parts-file c off ∙ cond-false _ _ _ on

-- ---- what is lent for a row

module _ (v : VersionData) (compat : Bool) where
  pub lent-some : (c : ℕ) → is_final v compat c ≡ false → (has_hangul v && is_syllable c) ≡ false → table_full v compat c ≡ full v compat 32 c
  unfolding table_full full_of
  lent-some c mapped off = cond-false _ _ _ (or_from _ _ mapped off)

  pub lent-final : (c : ℕ) → is_final v compat c ≡ true → table_full v compat c ≡ []
  unfolding table_full
  lent-final c final = cond-true _ _ _ (or_left _ _ final)

  pub lent-syllable : (c : ℕ) → (has_hangul v && is_syllable c) ≡ true → table_full v compat c ≡ []
  unfolding table_full
  lent-syllable c on = cond-true _ _ _ (or_right _ _ on)

  -- a mapping in the file that is empty never counts
  pub empty_parts : (c : ℕ) → (has_hangul v && is_syllable c) ≡ false → is_empty (file_mapping v c) ≡ true → is_final v compat c ≡ true
  empty_parts c off none = grind (arith, parts-passed, parts-file, cond-true)

  pub row-lent : (c : ℕ) (e : Entry) → entry_at v.entries c ≡ Some e → (counts compat e.kind && not (is_empty e.mapping)) ≡ true → table_full v compat c ≡ full v compat 32 c
  row-lent c e found h = grind (arith, and_parts, file_mapping-found, not-true, mapped-off, file_kind-found, lent-some, parts-file, cond-true)

  pub row-not_lent : (c : ℕ) (e : Entry) → entry_at v.entries c ≡ Some e → (counts compat e.kind && not (is_empty e.mapping)) ≡ false → table_full v compat c ≡ []
  row-not_lent c e found h = grind (arith, lent-syllable, and_cases, lent-final, parts-passed, file_kind-found, empty_parts, file_mapping-found, not-false)

  pub lent-outside : (c : ℕ) → is_empty (file_mapping v c) ≡ true → table_full v compat c ≡ []
  lent-outside c none = grind (arith, lent-syllable, lent-final, empty_parts)

-- ---- pairs

pub pair-syllable : (v w : VersionData) → w ≡ v → AreRows v.entries → (a b s : ℕ) → (has_hangul w && is_syllable s) ≡ true → syllable_pair s ≡ a ∷ b ∷ [] → IsCompositeOf v a b s
pair-syllable v w same rows a b s on pair =
    let on_v = subst (λ x. (has_hangul x && is_syllable s) ≡ true) same on in
    record { primary = primary-syllable v s rows on_v; mapping = decomposition_mapping-on v s on_v ∙ pair }

pub pair-found : (v u : VersionData) → u ≡ v → (cs : List Composite) → AreOfFile u cs → (a b : ℕ) (r : Option ℕ) → IfSome r (Lists cs a b) → IfSome r (IsCompositeOf v a b)
pair-found v u same cs file a b None h = h
pair-found v u same cs file a b (Some c) h = subst (λ x. IsCompositeOf x a b c) same (file.composites a b c h)

pub pair-none : (v w u : VersionData) → w ≡ v → u ≡ v → (cs : List Composite) → AreOfFile u cs → (a b : ℕ) →
    ((s : ℕ) → (has_hangul w && is_syllable s) ≡ true → ¬ (syllable_pair s ≡ a ∷ b ∷ [])) → (r : Option ℕ) → IfNone r ((code : ℕ) → ¬ Lists cs a b code) → IfNone r ((c : ℕ) → ¬ IsCompositeOf v a b c)
pair-none v w u same same_u cs file a b none None lists = λ c is. grind (arith, nat_tests, same, same_u, none c, lists c, file.all a b c, decomposition_mapping-on v c, is.mapping)
pair-none v w u same same_u cs file a b none (Some c) lists = lists

pub pair-value : (v : VersionData) → IsSound v → (a b : ℕ) (r : Option ℕ) → IfSome r (IsCompositeOf v a b) → IfNone r ((c : ℕ) → ¬ IsCompositeOf v a b c) → r ≡ composite v a b
pair-value v sound a b None some none =
    elim (cases_Option (composite v a b)) [
      | inl same ↦ sym same
      | inr found ↦ absurd (none found.0 (composite-some v a b found.0 found.1))
    ]
pair-value v sound a b (Some c) some none = sym (composite_from v sound a b c some)

-- ---- full decompositions

pub unlisted-bare : (v : VersionData) (c : ℕ) → entry_at v.entries c ≡ None → is_empty (file_mapping v c) ≡ true
unfolding file_mapping
unlisted-bare v c none = ap (λ o. is_empty (mapping_in o)) none

pub full-none : (v : VersionData) (compat : Bool) (c : ℕ) → entry_at v.entries c ≡ None → [] ≡ table_full v compat c
full-none v compat c h = sym (lent-outside v compat c (unlisted-bare v c h))

pub IsLent-table_full : (v : VersionData) (compat : Bool) (c : ℕ) → IsSound v → IsLent v compat c (table_full v compat c)
unfolding table_full
IsLent-table_full v compat c sound = grind (arith, nat_tests, IsFullDecomposition-full_of v compat sound.shallow c)

pub lent-by_value : (v : VersionData) (compat : Bool) (c : ℕ) (lent : List ℕ) → IsSound v → lent ≡ table_full v compat c → IsLent v compat c lent
lent-by_value v compat c lent sound is = subst (IsLent v compat c) (sym is) (IsLent-table_full v compat c sound)

-- there is one such list
pub lent-value : (v : VersionData) (compat : Bool) (c : ℕ) (lent : List ℕ) → IsSound v → IsLent v compat c lent → lent ≡ table_full v compat c
unfolding table_full
lent-value v compat c lent sound is = grind (arith, nat_tests, is.final, is.syllable, full_of-only v compat sound.shallow c lent, is.full)

-- ---- syllables decompose to a leading consonant and what composes with it

-- a syllable decomposes to a leading consonant and what composes with it
pub record Unfolds (v : VersionData) (compat : Bool) (c : ℕ) : Type 0 where
  pub first : ℕ
  pub rest : List ℕ
  pub full : full_of v compat c ≡ first ∷ rest
  pub is_leading : is_among 0x1100 19 first ≡ true
  pub rises : NeverFalls (class_of v) rest
  pub folds : ComposesTo v first rest c

module _ (v : VersionData) (sound : IsSound v) (on : has_hangul v ≡ true) (compat : Bool) where
  counted : (c : ℕ) → is_syllable c ≡ true → parts v compat c ≡ syllable_pair c
  unfolding parts
  counted c h =
      let both = and_from _ _ on h in
      cond-true _ _ _ (ap (counts compat) (decomposition_kind-on v c both)) ∙ decomposition_mapping-on v c both

  jamo_full : (c : ℕ) → IsJamo c → full_of v compat c ≡ c ∷ []
  jamo_full c jamo = full_of-final v compat sound.shallow c (parts-cases v compat (λ l. is_empty l ≡ true) refl c (ap is_empty (jamo_bare v c on jamo)))

  pair_full : (c a b : ℕ) → is_syllable c ≡ true → syllable_pair c ≡ a ∷ b ∷ [] → full_of v compat c ≡ full_of v compat a ++ (full_of v compat b ++ [])
  pair_full c a b h pair =
      let its = counted c h ∙ pair in
      full_of-mapped v compat sound.shallow c (ap is_empty its) ∙ ap (flat_map (full_of v compat)) its

  pair_composite : (c a b : ℕ) → is_syllable c ≡ true → syllable_pair c ≡ a ∷ b ∷ [] → IsCompositeOf v a b c
  pair_composite c a b h pair =
      let both = and_from _ _ on h in
      record { primary = primary-syllable v c sound.rows both; mapping = decomposition_mapping-on v c both ∙ pair }

  -- the first part of a syllable of two jamo is a leading consonant
  leading : (c : ℕ) (is : IsLv c) → is_among 0x1100 19 is.leading ≡ true
  leading c is =
      elim (pair_kinds c is.leading is.vowel is.syllable is.pair) [
        | inl lv ↦ lv.0
        | inr lvt ↦ absurd (both_ways _ is.first.single (and_parts (is_syllable is.leading) _ lvt.0).0)
      ]

  lv_full : (c : ℕ) (is : IsLv c) → full_of v compat c ≡ is.leading ∷ is.vowel ∷ []
  lv_full c is =
      pair_full c is.leading is.vowel is.syllable is.pair
      ∙ ap (λ l. l ++ (full_of v compat is.vowel ++ [])) (jamo_full is.leading is.first)
      ∙ ap (λ l. is.leading ∷ (l ++ [])) (jamo_full is.vowel is.second)

  pub jamo_class : (c : ℕ) → IsJamo c → class_of v c ≡ 0
  jamo_class c jamo = (by_arithmetic v on c jamo.hangul).class

  pub unfolds : (c : ℕ) → is_syllable c ≡ true → Unfolds v compat c
  unfolds c h =
      let pair = pair_exists c in
      elim (pair_kinds c pair.0 pair.1 h pair.2) [
        | inl lv ↦
            let is : IsLv c = record { syllable = h; leading = pair.0; vowel = pair.1; pair = pair.2; first = leading_jamo pair.0 lv.0; second = vowel_jamo pair.1 lv.1 } in
            record { first = is.leading; rest = is.vowel ∷ []; full = lv_full c is; is_leading = lv.0; rises = tt; folds = (c, pair_composite c is.leading is.vowel h is.pair, refl) }
        | inr lvt ↦
            let front = and_parts (is_syllable pair.0) _ lvt.0 in
            let is = lv_shape pair.0 front.0 (eqb-true _ 0 front.1) in
            let jamo = trailing_jamo pair.1 lvt.1 in
            let vowel = jamo_class is.vowel is.second in
            record {
              first = is.leading;
              rest = is.vowel ∷ pair.1 ∷ [];
              full = pair_full c pair.0 pair.1 h pair.2 ∙ ap (λ l. l ++ (full_of v compat pair.1 ++ [])) (lv_full pair.0 is) ∙ ap (λ l. (is.leading ∷ is.vowel ∷ []) ++ (l ++ [])) (jamo_full pair.1 jamo);
              is_leading = leading pair.0 is;
              rises = (omega arith, tt);
              folds = (pair.0, pair_composite pair.0 is.leading is.vowel is.syllable is.pair, (c, pair_composite c pair.0 pair.1 h pair.2, refl));
            }
      ]

-- ---- walks over lists, and ASCII at the front of a text

module _ (Step : Option ℕ → ℕ → ℕ → ℕ → Type 0) where
  -- a first part is a walk
  pub Walks-front : (before : Option ℕ) (first last : ℕ) (xs ys : List ℕ) → Walks Step before first (xs ++ ys) last → (middle : ℕ) × Walks Step before first xs middle
  Walks-front before first last [] ys w = (first, refl)
  Walks-front before first last (x ∷ xs) ys w = let rest = Walks-front (Some x) w.0 last xs ys w.2 in (rest.0, (w.0, w.1, rest.1))

-- ---- ASCII stands for itself

module _ (text : List ℕ) (n : ℕ) (utf8 : IsUtf8 text) (le : n ≤ length text) (ascii : IsAscii (take n text)) where
  pub past_boundary : IsCharBoundary text n
  past_boundary = IsCharBoundary-from_take text n utf8 le (IsUtf8-from_ascii (take n text) ascii)

  pub IsPast-ascii : (P : ℕ → Type 0) (rest : List ℕ) → rest ≡ drop n text → ((c : ℕ) → c < 128 → P c) → IsPast P text rest
  IsPast-ascii P rest is each =
      let front = take n text in
      let whole : text ≡ front ++ rest = sym (take-append-drop n text) ∙ ap (λ l. front ++ l) (sym is) in
      record {
        front = front;
        split = whole ∙ ap (λ l. l ++ rest) (sym (encodes-IsAscii front ascii));
        text_is = ap chars whole ∙ chars-append front rest (IsUtf8-from_ascii front ascii) ∙ ap (λ l. l ++ chars rest) (chars-IsAscii front ascii);
        utf8 = subst IsUtf8 (sym is) (IsUtf8-drop text n utf8 past_boundary);
        passed = λ k d lt. each (get_or front k d) (omega (arith, ascii k, get_or_default front k d 0 lt));
      }
