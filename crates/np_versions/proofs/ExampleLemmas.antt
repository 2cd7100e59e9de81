-- Versions that meet the conditions, so the laws are not vacuous: that of empty files, one with a starter, a non-starter and their
-- primary composite, and one with these, the Hangul arithmetic and further rows.
use Rattle.std.proofs.Common.{◌≡◌, ℕ, true, false, [], length, refl, ap, ◌∙◌, arith, ◌≤◌, ◌&&◌, List, ◌∷◌, ◌++◌, flat_map, Option, Some, sym, subst, inl, inr}
use Rattle.np_versions.proofs.Words.{both_ways, list_all, entry_at, is_assigned, is_empty, decomposition_mapping, has_depth, IsSound, slice_get, cond-true}
use Rattle.np_versions.proofs.Words.{cond-false, cases_Bool, and_parts, and_right, and_from, leb-true, Entry, AreRows, Plain, Canonical, is_syllable}
use Rattle.np_versions.proofs.Words.{syllable_pair, VersionData, class_of, file_kind, file_mapping, mapping_in, is_excluded, is_hangul, is_hangul_row}
use Rattle.np_versions.proofs.Words.{has_hangul, decomposition_kind, full_of, IsPrimary, IsCompositeOf}
use Rattle.np_versions.specs.Examples.{without_rows, letter_with_ring, plain, with_hangul, with_rows}
use Rattle.np_versions.proofs.FaultLemmas.{sound-by}
use Rattle.np_versions.proofs.MappingLemmas.{is_empty-true, full_of-final, full_of-only, parts-cases, full_of-mapped}
use Rattle.np_versions.proofs.CompositeLemmas.{mapped-assigned, composite-assigned, composite_parts}
use Rattle.np_code_points.proofs.HangulLemmas.{first_same, pair_injective}
use Rattle.np_versions.proofs.DepthLemmas.{bare_depth, mark-length, mark-more, suc_depth}
use Rattle.np_versions.proofs.HangulLemmas.{decomposition_kind-off, decomposition_mapping-off, decomposition_mapping-on, has_hangul-from, head_hangul}
use Rattle.np_versions.proofs.HangulLemmas.{pair_assigned, shape_of, hangul_runs, Runs}
use Rattle.np_versions.proofs.RowLemmas.{at-found}
use Rattle.np_versions.proofs.SyllableLemmas.{depth_two, mark-syllable, syllable_mark-late}

lacks : (c : ℕ) → is_assigned without_rows c ≡ false
unfolding is_assigned entry_at
lacks c = refl

no_mapping : (c : ℕ) → decomposition_mapping without_rows c ≡ []
no_mapping c = let lacking = lacks c in grind (arith, mapped-assigned, is_empty-true)

empty_shallow : (c : ℕ) → has_depth without_rows 32 c ≡ true
unfolding has_depth
empty_shallow c = ap (list_all (has_depth without_rows 31)) (no_mapping c)

pub IsSound-without_rows : IsSound without_rows
IsSound-without_rows =
    sound-by without_rows tt (λ c. ap (list_all (is_assigned without_rows)) (no_mapping c)) empty_shallow
    (λ c ys is.
    let final = parts-cases without_rows true (λ l. is_empty l ≡ true) refl c (ap is_empty (no_mapping c)) in
    let e = ap length (full_of-only without_rows true empty_shallow c ys is ∙ full_of-final without_rows true empty_shallow c final) in omega arith)
    (λ a b c d h k. absurd (both_ways _ (lacks c) (composite-assigned without_rows a b c h)))
    (λ c among h. absurd (both_ways _ (lacks c) h))

-- ---- versions with rows

-- a row of one code point, or one of the rows behind it
at_row : (P : ℕ → Option Entry → Type 0) (e : Entry) (es : List Entry) (c : ℕ) → e.first ≡ e.last → P e.first (Some e) → P c (entry_at es c) → P c (entry_at (e ∷ es) c)
unfolding entry_at
at_row P e es c alone here behind = grind (arith, and_parts, leb-true, cond-true, cond-false)

abbrev AreBare : List Entry → Type 0
AreBare [] = Unit {0}
AreBare (e ∷ es) = (e.mapping ≡ []) × AreBare es

bare_in : (es : List Entry) → AreBare es → (c : ℕ) → mapping_in (entry_at es c) ≡ []
unfolding entry_at
bare_in [] bare c = refl
bare_in (e ∷ es) bare c =
    let rest = bare_in es bare.1 c in
    grind (arith, cond-true, cond-false)

abbrev letter : Entry
letter = plain 0x41 0x41 0

abbrev ring : Entry
ring = plain 0x30A 0x30A 230

module _ (more : List Entry) where
  abbrev version : VersionData
  version = record { entries = letter ∷ letter_with_ring ∷ ring ∷ more; exclusions = [] }

  -- ---- what the three rows say

  off_at : (c : ℕ) → is_syllable c ≡ false → (has_hangul version && is_syllable c) ≡ false
  off_at c h = and_right (has_hangul version) _ h

  pub letter_mapping : decomposition_mapping version 0x41 ≡ []
  unfolding file_mapping entry_at
  letter_mapping = decomposition_mapping-off version 0x41 (off_at 0x41 refl)

  pub ring_mapping : decomposition_mapping version 0x30A ≡ []
  unfolding file_mapping entry_at
  ring_mapping = decomposition_mapping-off version 0x30A (off_at 0x30A refl)

  pub pair_mapping : decomposition_mapping version 0xC5 ≡ 0x41 ∷ 0x30A ∷ []
  unfolding file_mapping entry_at
  pair_mapping = decomposition_mapping-off version 0xC5 (off_at 0xC5 refl)

  pub letter_kind : decomposition_kind version 0x41 ≡ Plain
  unfolding file_kind entry_at
  letter_kind = decomposition_kind-off version 0x41 (off_at 0x41 refl)

  pub ring_kind : decomposition_kind version 0x30A ≡ Plain
  unfolding file_kind entry_at
  ring_kind = decomposition_kind-off version 0x30A (off_at 0x30A refl)

  pub pair_kind : decomposition_kind version 0xC5 ≡ Canonical
  unfolding file_kind entry_at
  pair_kind = decomposition_kind-off version 0xC5 (off_at 0xC5 refl)

  pub pair_primary : IsPrimary version 0xC5
  unfolding class_of is_excluded entry_at
  pair_primary =
      record { canonical = pair_kind; first = 0x41; second = 0x30A; pair = pair_mapping; starter = refl; first_starter = refl; included = refl }

  -- all three are assigned, and with what class
  pub record ThreeCodes : Type 0 where
    pub letter : (is_assigned version 0x41 ≡ true) × (class_of version 0x41 ≡ 0)
    pub pair : (is_assigned version 0xC5 ≡ true) × (class_of version 0xC5 ≡ 0)
    pub ring : (is_assigned version 0x30A ≡ true) × (class_of version 0x30A ≡ 230)

  pub three_codes : ThreeCodes
  unfolding is_assigned class_of entry_at
  three_codes = record { letter = (refl, refl); pair = (refl, refl); ring = (refl, refl) }

  parts_assigned : list_all (is_assigned version) (0x41 ∷ 0x30A ∷ []) ≡ true
  unfolding is_assigned entry_at
  parts_assigned = refl

  module _ (rows : AreRows version.entries) (bare : AreBare more) (hangul : (c : ℕ) → is_hangul c ≡ true → is_assigned version c ≡ true → has_hangul version ≡ true) where
    -- ---- a code point maps to its pair as a syllable, to the one pair of the rows, or to nothing

    in_file : (P : ℕ → List ℕ → Type 0) → P 0xC5 (0x41 ∷ 0x30A ∷ []) → ((c : ℕ) → P c []) → (c : ℕ) → P c (mapping_in (entry_at version.entries c))
    in_file P pair none c =
        let Q : ℕ → Option Entry → Type 0 = λ d o. P d (mapping_in o) in
        at_row Q letter (letter_with_ring ∷ ring ∷ more) c refl (none 0x41)
        (at_row Q letter_with_ring (ring ∷ more) c refl pair
        (at_row Q ring more c refl (none 0x30A) (subst (P c) (sym (bare_in more bare c)) (none c))))

    pub by_mapping : (P : ℕ → List ℕ → Type 0) → ((c : ℕ) → (has_hangul version && is_syllable c) ≡ true → P c (syllable_pair c)) → P 0xC5 (0x41 ∷ 0x30A ∷ []) → ((c : ℕ) → P c []) → (c : ℕ) → P c (decomposition_mapping version c)
    unfolding file_mapping
    by_mapping P syllable pair none c =
        let file = in_file P pair none c in
        let here = syllable c in
        grind (arith, decomposition_mapping-on, decomposition_mapping-off)

    -- ---- the conditions

    maps_to_assigned : (c : ℕ) → list_all (is_assigned version) (decomposition_mapping version c) ≡ true
    maps_to_assigned =
        by_mapping (λ _ m. list_all (is_assigned version) m ≡ true)
        (λ c on. let halves = and_parts _ _ on in pair_assigned version c halves.0 halves.1) parts_assigned (λ _. refl)

    of_syllable : (c : ℕ) → (has_hangul version && is_syllable c) ≡ true → (has_depth version 32 c ≡ true) × (length (full_of version true c) ≤ 64)
    unfolding full_of
    of_syllable c on =
        let halves = and_parts _ _ on in
        let mark_is = mark-syllable version rows halves.0 32 c halves.1 ∙ syllable_mark-late 32 c (omega arith) in
        let two = depth_two c in
        let shallow = mark-more version 32 c (omega arith) in
        let length_is = mark-length version 32 c shallow in
        (shallow, omega arith)

    shallow : (c : ℕ) → has_depth version 32 c ≡ true
    shallow c =
        let letter_depth = bare_depth version 31 0x41 letter_mapping in
        let ring_depth = bare_depth version 31 0x30A ring_mapping in
        by_mapping (λ d m. decomposition_mapping version d ≡ m → has_depth version 32 d ≡ true)
        (λ d on _. (of_syllable d on).0) (λ e. suc_depth version 31 0xC5 _ e ∙ and_from _ _ letter_depth (and_from _ _ ring_depth refl)) (λ d e. bare_depth version 32 d e) c refl

    final_full : (c : ℕ) → decomposition_mapping version c ≡ [] → full_of version true c ≡ c ∷ []
    final_full c none = full_of-final version true shallow c (parts-cases version true (λ l. is_empty l ≡ true) refl c (ap is_empty none))

    pub composite_is : IsCompositeOf version 0x41 0x30A 0xC5
    composite_is = record { primary = pair_primary; mapping = pair_mapping }

    pair_full : full_of version true 0xC5 ≡ 0x41 ∷ 0x30A ∷ []
    pair_full =
        let parts_are = composite_parts version true 0x41 0x30A 0xC5 composite_is in
        full_of-mapped version true shallow 0xC5 (ap is_empty parts_are) ∙ ap (flat_map (full_of version true)) parts_are
        ∙ ap (λ l. l ++ (full_of version true 0x30A ++ [])) (final_full 0x41 letter_mapping) ∙ ap (λ l. 0x41 ∷ (l ++ [])) (final_full 0x30A ring_mapping)

    short : (c : ℕ) → length (full_of version true c) ≤ 64
    short c =
        by_mapping (λ d m. decomposition_mapping version d ≡ m → length (full_of version true d) ≤ 64)
        (λ d on _. (of_syllable d on).1) (λ _. let e = ap length pair_full in omega arith) (λ d none. let e = ap length (final_full d none) in omega arith) c refl

    -- but for syllables there is one composite
    pub pair_alone : (a b c : ℕ) → IsCompositeOf version a b c → (has_hangul version && is_syllable c) ≡ false → c ≡ 0xC5
    pair_alone a b c is off =
        by_mapping (λ d m. m ≡ a ∷ b ∷ [] → (has_hangul version && is_syllable d) ≡ false → d ≡ 0xC5)
        (λ d on _ none. absurd (both_ways _ none on)) (λ _ _. refl) (λ _ e _. cc) c is.mapping off

    -- a syllable has another pair
    letter_alone : (s a b : ℕ) → (has_hangul version && is_syllable s) ≡ true → IsCompositeOf version a b s → IsCompositeOf version a b 0xC5 → ⊥
    letter_alone s a b on is pair =
        let shape = shape_of s (and_parts _ _ on).1 in
        let from_syllable = first_same a b shape.first shape.second (sym is.mapping ∙ decomposition_mapping-on version s on ∙ shape.pair) in
        let from_pair = first_same a b 0x41 0x30A (sym pair.mapping ∙ pair_mapping) in
        both_ways (is_hangul 0x41) refl (ap is_hangul (sym from_pair ∙ from_syllable) ∙ head_hangul shape.first shape.head)

    unlike : (a b c d : ℕ) → IsCompositeOf version a b c → IsCompositeOf version a b d → c ≡ d
    unlike a b c d one two =
        elim (cases_Bool (has_hangul version && is_syllable c)) [
          | inl on ↦ elim (cases_Bool (has_hangul version && is_syllable d)) [
            | inl too ↦
                pair_injective c d (and_parts _ _ on).1 (and_parts _ _ too).1
                (sym (decomposition_mapping-on version c on) ∙ one.mapping ∙ sym two.mapping ∙ decomposition_mapping-on version d too)
            | inr off ↦ absurd (letter_alone c a b on one (subst (IsCompositeOf version a b) (pair_alone a b d two off) two))
          ]
          | inr off ↦ elim (cases_Bool (has_hangul version && is_syllable d)) [
            | inl on ↦ absurd (letter_alone d a b on two (subst (IsCompositeOf version a b) (pair_alone a b c one off) one))
            | inr too ↦ pair_alone a b c one off ∙ sym (pair_alone a b d two too)
          ]
        ]

    pub is_sound : IsSound version
    is_sound =
        sound-by version rows maps_to_assigned shallow (λ c ys is. (let e = ap length (full_of-only version true shallow c ys is) in let le = short c in omega arith)) unlike hangul

-- ---- the three rows alone

-- what lies in a row is one of the three
pub assigned_code : (P : ℕ → Type 0) → P 0x41 → P 0xC5 → P 0x30A → (c : ℕ) → is_assigned with_rows c ≡ true → P c
unfolding is_assigned entry_at
assigned_code P at_letter at_pair at_ring c = grind (arith, at_row)

pub syllable_lacks : is_assigned with_rows 0xAC00 ≡ false
unfolding is_assigned entry_at
syllable_lacks = refl

rows_alone : AreRows with_rows.entries
rows_alone = grind arith

pub no_hangul : (c : ℕ) → is_hangul c ≡ true → is_assigned with_rows c ≡ true → ⊥
no_hangul c among h = assigned_code (λ d. is_hangul d ≡ true → ⊥) (λ e. cc) (λ e. cc) (λ e. cc) c h among

pub IsSound-with_rows : IsSound with_rows
IsSound-with_rows = is_sound [] rows_alone tt (λ c among h. absurd (no_hangul c among h))

pub pair_alone-with_rows : (a b c : ℕ) → IsCompositeOf with_rows a b c → (has_hangul with_rows && is_syllable c) ≡ false → c ≡ 0xC5
pair_alone-with_rows = pair_alone [] rows_alone tt (λ c among h. absurd (no_hangul c among h))

pub class_of-ring : class_of with_rows 0x30A ≡ 230
class_of-ring = (three_codes []).ring.1

pub IsCompositeOf-with_rows : IsCompositeOf with_rows 0x41 0x30A 0xC5
IsCompositeOf-with_rows = composite_is [] rows_alone tt (λ c among h. absurd (no_hangul c among h))

-- ---- with the Hangul arithmetic

abbrev jamo : Entry
jamo = plain 0x1100 0x11FF 0

abbrev syllables : Entry
syllables = plain 0xAC00 0xD7A3 0

abbrev pub hangul_rows : List Entry
hangul_rows = jamo ∷ syllables ∷ []

rows_hangul : AreRows with_hangul.entries
rows_hangul = grind arith

-- a code point of a row of class 0 without a mapping is as the arithmetic wants it
row_at : (i : ℕ) (e : Entry) (c : ℕ) → slice_get with_hangul.entries i ≡ Some e → e.class ≡ 0 → e.mapping ≡ [] → e.first ≤ c → c ≤ e.last → is_hangul_row with_hangul c ≡ true
unfolding is_hangul_row is_assigned class_of file_mapping
row_at i e c at class bare low high =
    let found : entry_at with_hangul.entries c ≡ Some e = sym (at-found with_hangul.entries i c e rows_hangul at low high) ∙ at in
    grind arith

pub hangul_on_with : has_hangul with_hangul ≡ true
unfolding Runs
hangul_on_with =
    has_hangul-from with_hangul
    (λ c h.
    let runs = hangul_runs c h in
    let jamo_at = row_at 3 jamo c refl refl refl in
    let syllable_at = row_at 4 syllables c refl refl refl in
    grind arith)

pub IsSound-with_hangul : IsSound with_hangul
IsSound-with_hangul = is_sound hangul_rows rows_hangul (refl, (refl, tt)) (λ _ _ _. hangul_on_with)

pub pair_alone-with_hangul : (a b c : ℕ) → IsCompositeOf with_hangul a b c → (has_hangul with_hangul && is_syllable c) ≡ false → c ≡ 0xC5
pair_alone-with_hangul = pair_alone hangul_rows rows_hangul (refl, (refl, tt)) (λ _ _ _. hangul_on_with)
