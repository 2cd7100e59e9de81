-- What a table of pages keeps: second parts, hints of each form, and properties by rows and by blocks.
use Rattle.std.proofs.Common.{◌≡◌, ℕ, ◌<◌, ◌≤◌, true, false, ◌&&◌, List, length, Some, None, sym, ap, ◌∙◌, arith, Bool, get_or, ◌+◌, ◌-◌, ◌==◌, ◌≢◌, not, ◌∷◌}
use Rattle.std.proofs.Common.{MatchBool, refl, subst, eqb-true, [], ◌/◌, ◌++◌, set, slice_index, inl, inr}
use Rattle.np_tables.proofs.Words.{and_parts, both_ways, Entry, is_syllable, VersionData, entry_at, has_hangul, is_assigned, IsCompositeOf, list_all, slice_get}
use Rattle.np_tables.proofs.Words.{is_some, slice_get-get_or, IsSound, Composite, IsNeverSecond, is_late_jamo, AreSecondRows, AreSeconds, is_row_never_second}
use Rattle.np_tables.proofs.Words.{touches, AreOfFile, and_from, and_right, Form, is_compat, composes, Nfd, Nfc, Nfkd, Nfkc, IsBoundary, IsYesStarter}
use Rattle.np_tables.proofs.Words.{NeverFalls, ComposesTo, counts, is_final, IsFullDecomposition, IsRow, class_of, is_empty, full_of, table_full, AreBits}
use Rattle.np_tables.proofs.Words.{AreHints, AreLeadingNeverSecond, ComposesByPairs, bit, eight_bits, has_bit, own_hints, boundary_place, boundary_under}
use Rattle.np_tables.proofs.Words.{syllable_hints, yes_place, yes_under, AreRowBits, mod-lt, get_or-append_seam, cases_lt, get_or_append_left, get_or-map}
use Rattle.np_tables.proofs.Words.{get_or-set_same, get_or-set_other, length-append, length-map, length-set, same_Some, slice_get_within, AreRows, class_in}
use Rattle.np_tables.proofs.Words.{Properties, FullLists, property_place, AreRowPages, IsRowNumber, AreAllRowProperties, AreSlots, AreRowProperties}
use Rattle.np_tables.proofs.Words.{ArePropertiesOf, ArePages, no_properties, row_properties, paged_properties, nat_tests}
use Rattle.np_code_points.proofs.HangulLemmas.{pair_kinds, among_bounds, among_from_bounds}
use Rattle.np_versions.proofs.RowLemmas.{entry_at-within, some_at, file_kind-found, file_mapping-found, mapped-off, at-found, at-row, ends-before}
use Rattle.np_versions.proofs.HangulLemmas.{decomposition_mapping-on, leading_jamo, by_arithmetic, syllable_hangul}
use Rattle.np_tables.specs.declared.page_hints.Hints.{Hints}
use Rattle.np_versions.proofs.TableLemmas.{empty_parts, row-lent, parts-passed, jamo_class, unfolds, full-none, unlisted-bare}
use Rattle.np_versions.proofs.MappingLemmas.{IsFullDecomposition-full_of, is_empty_from}
use Rattle.np_tables.proofs.FullListLemmas.{row-shares}

-- the second part of a composite is assigned
second_assigned : (v : VersionData) → IsSound v → (a b p : ℕ) → IsCompositeOf v a b p → is_assigned v b ≡ true
second_assigned v sound a b p is =
    let all = sym (ap (list_all (is_assigned v)) is.mapping) ∙ sound.maps_to_assigned p in
    (and_parts (is_assigned v b) true (and_parts (is_assigned v a) (is_assigned v b && true) all).1).0

pub never_second-unlisted : (v : VersionData) (c : ℕ) → IsSound v → entry_at v.entries c ≡ None → IsNeverSecond v c
unfolding is_assigned
never_second-unlisted v c sound none a p is = both_ways _ (ap is_some none) (second_assigned v sound a c p is)

-- the second part of a syllable is a vowel or a trailing consonant
late_jamo : (v : VersionData) (a c p : ℕ) → (has_hangul v && is_syllable p) ≡ true → IsCompositeOf v a c p → (0x1161 ≤ c) × (c ≤ 0x11C2)
late_jamo v a c p on is =
    let pair = sym (decomposition_mapping-on v p on) ∙ is.mapping in
    grind (arith, nat_tests, pair_kinds p a c (and_parts (has_hangul v) (is_syllable p) on).1 pair)

-- a row that isn't marked
module _ (v : VersionData) (seconds : List Bool) (marks : AreSeconds v seconds) (k : ℕ) (e : Entry) (here : slice_get v.entries k ≡ Some e) (c : ℕ) (found : entry_at v.entries c ≡ Some e) (none : get_or seconds k false ≡ false) where
  never_second-row : ((0x1161 ≤ c) → (c ≤ 0x11C2) → ⊥) → IsNeverSecond v c
  never_second-row early a p is =
      grind (arith, nat_tests, entry_at-within v.entries c e found, late_jamo v a c p, early, none, marks.each a c p k e is)

pub row-never_second : (v : VersionData) (seconds : List Bool) (k : ℕ) (e : Entry) (c : ℕ) → AreSeconds v seconds → slice_get v.entries k ≡ Some e → entry_at v.entries c ≡ Some e → is_row_never_second e (get_or seconds k false) ≡ true → IsNeverSecond v c
row-never_second v seconds k e c marks here found is =
    never_second-row v seconds marks k e here c found (grind (arith, nat_tests)) (grind (arith, nat_tests, entry_at-within v.entries c e found))

pub never_second-unmarked : (v : VersionData) (seconds : List Bool) (c at : ℕ) → AreSeconds v seconds → at < length v.entries → slice_get v.entries at ≡ entry_at v.entries c → is_late_jamo c ≡ false → get_or seconds at false ≡ false → IsNeverSecond v c
never_second-unmarked v seconds c at marks lt place early none =
    let here = some_at v.entries at lt in
    never_second-row v seconds marks at here.0 here.1 c (sym place ∙ here.1) none (grind (arith, nat_tests))

-- the marks of all composites are those of all second parts
pub seconds-all : (v : VersionData) (cs : List Composite) (seconds : List Bool) → AreOfFile v cs → AreSecondRows v.entries cs (length cs) seconds → AreSeconds v seconds
seconds-all v cs seconds file marks =
    record { size = marks.size; each = λ a b p k e is off here low high. grind (arith, file.all a b p is off, marks.each, slice_get-get_or, here, low, high) }

-- a row that holds no syllable
pub no_syllable : (c : ℕ) (e : Entry) → e.first ≤ c → c ≤ e.last → touches 0xAC00 0xD7A3 e ≡ false → is_syllable c ≡ false
no_syllable c e low high none = grind (arith, nat_tests)

-- ---- composites of a list are composites

pub composes_by_pairs : (v : VersionData) (cs : List Composite) → AreOfFile v cs → (s : ℕ) (bs : List ℕ) (c : ℕ) → ComposesByPairs cs s bs c → ComposesTo v s bs c
composes_by_pairs v cs file s [] c is = is
composes_by_pairs v cs file s (b ∷ bs) c is = (is.0, file.composites s b is.0 is.1, composes_by_pairs v cs file is.0 bs c is.2)

-- ---- by a full decomposition

module _ (v : VersionData) (compat : Bool) (c first : ℕ) (rest : List ℕ) (full : IsFullDecomposition v compat (c ∷ []) (first ∷ rest)) where
  boundary-of : (form : Form) → is_compat form ≡ compat → class_of v first ≡ 0 → (composes form ≡ true → IsNeverSecond v first) → IsBoundary v form c
  boundary-of form kind starter never_second =
      record { first = first; rest = rest; decomposes = subst (λ b. IsFullDecomposition v b (c ∷ []) (first ∷ rest)) (sym kind) full; starter = starter; never_second = never_second }

  module _ (h : Hints) (starter : h.boundary ≡ true → class_of v first ≡ 0) (both : h.boundary_composing ≡ true → h.boundary ≡ true) (never_second : h.boundary_composing ≡ true → IsNeverSecond v first)
      (single : h.yes_starter ≡ true → (h.boundary ≡ true) × NeverFalls (class_of v) rest × (first ∷ rest ≡ c ∷ []))
      (too : h.yes_starter_composing ≡ true → h.boundary_composing ≡ true) (rises : h.yes_starter_composing ≡ true → NeverFalls (class_of v) rest) (folds : h.yes_starter_composing ≡ true → ComposesTo v first rest c) where
    by_parts : (form : Form) → is_compat form ≡ compat → (b : Bool) → composes form ≡ b → boundary_under b h ≡ true → IsBoundary v form c
    by_parts form kind false e is = boundary-of form kind (starter is) (λ on. absurd (both_ways _ e on))
    by_parts form kind true e is = boundary-of form kind (starter (both is)) (λ on. never_second is)

    by_yes : (form : Form) → is_compat form ≡ compat → (b : Bool) → composes form ≡ b → yes_under b h ≡ true → IsYesStarter v form c
    unfolding boundary-of
    by_yes form kind false e is =
        record {
          boundary = boundary-of form kind (starter (single is).0) (λ on. absurd (both_ways _ e on));
          rises = (single is).1;
          returns = subst (λ b. MatchBool b (ComposesTo v first rest c) (first ∷ rest ≡ c ∷ [])) (sym e) (single is).2;
        }
    by_yes form kind true e is =
        record {
          boundary = boundary-of form kind (starter (both (too is))) (λ on. never_second (too is));
          rises = rises is;
          returns = subst (λ b. MatchBool b (ComposesTo v first rest c) (first ∷ rest ≡ c ∷ [])) (sym e) (folds is);
        }

    -- it begins with a starter; that is no second part where the form composes; and what is left composes with it, or nothing is left
    pub hints-listed : AreHints v compat c h
    hints-listed = record { boundary = λ form kind is. by_parts form kind (composes form) refl is; yes_starter = λ form kind is. by_yes form kind (composes form) refl is }

-- by itself
pub hints-own : (v : VersionData) (compat : Bool) (c class : ℕ) (never_second : Bool) → is_final v compat c ≡ true → class ≡ class_of v c →
    (never_second ≡ true → IsNeverSecond v c) → AreHints v compat c (own_hints class never_second)
hints-own v compat c class never_second final same alone =
    hints-listed v compat c c [] (record { reached = (0, refl); final = and_from _ _ final refl }) (own_hints class never_second) (λ is. sym same ∙ eqb-true class 0 is)
    (λ is. (and_parts (class == 0) never_second is).0) (λ is. alone (and_parts (class == 0) never_second is).1) (λ is. (is, tt, refl)) (λ is. is) (λ _. tt) (λ _. refl)

-- ---- all but that it passes where the form composes

abbrev less : Bool → Hints → Hints
less b h = record { boundary = h.boundary; boundary_composing = h.boundary_composing; yes_starter = h.yes_starter; yes_starter_composing = b }

boundary_less : (b less_is : Bool) (h : Hints) → boundary_under b (less less_is h) ≡ true → boundary_under b h ≡ true
boundary_less false less_is h is = is
boundary_less true less_is h is = is

yes_less : (b less_is : Bool) (h : Hints) → (less_is ≡ true → h.yes_starter_composing ≡ true) → yes_under b (less less_is h) ≡ true → yes_under b h ≡ true
yes_less false less_is h only is = is
yes_less true less_is h only is = only is

pub hints-less : (v : VersionData) (compat : Bool) (c : ℕ) (h : Hints) (less_is : Bool) → (less_is ≡ true → h.yes_starter_composing ≡ true) → AreHints v compat c h → AreHints v compat c (less less_is h)
hints-less v compat c h less_is only are =
    record {
      boundary = λ form kind is. are.boundary form kind (boundary_less (composes form) less_is h is);
      yes_starter = λ form kind is. are.yes_starter form kind (yes_less (composes form) less_is h only is);
    }

-- ---- hints of syllables

module _ (v : VersionData) (sound : IsSound v) (on : has_hangul v ≡ true) (compat : Bool) where
  pub hints-syllable : (c : ℕ) → is_syllable c ≡ true → AreLeadingNeverSecond v → AreHints v compat c syllable_hints
  hints-syllable c h leading_consonants =
      let is = unfolds v sound on compat c h in
      let range = among_bounds 0x1100 19 is.first is.is_leading in
      let back : 0x1100 + (is.first - 0x1100) ≡ is.first = omega arith in
      hints-listed v compat c is.first is.rest (subst (IsFullDecomposition v compat (c ∷ [])) is.full (IsFullDecomposition-full_of v compat sound.shallow c)) syllable_hints
      (λ _. jamo_class v sound on compat is.first (leading_jamo is.first is.is_leading)) (λ _. refl) (λ _. subst (IsNeverSecond v) back (leading_consonants (is.first - 0x1100) (omega arith))) (λ on. absurd (both_ways _ refl on))
      (λ _. refl) (λ _. is.rises) (λ _. is.folds)

-- ---- both kinds in one number

bit-one : (b : Bool) → bit b ≡ 1 → b ≡ true
bit-one false h = absurd (omega arith)
bit-one true h = refl

bit-low : (b : Bool) → bit b ≤ 1
bit-low false = omega arith
bit-low true = omega arith

bits-low : (h : Hints) → (bit h.boundary ≤ 1) × (bit h.boundary_composing ≤ 1) × (bit h.yes_starter ≤ 1) × (bit h.yes_starter_composing ≤ 1)
bits-low h = (bit-low h.boundary, bit-low h.boundary_composing, bit-low h.yes_starter, bit-low h.yes_starter_composing)

module _ (a b : Hints) (v : VersionData) (c : ℕ) (canonical : AreHints v false c a) (compatible : AreHints v true c b) where
  boundary-bit : (form : Form) → has_bit (eight_bits a b) (boundary_place form) ≡ true → IsBoundary v form c
  boundary-bit Nfd h = canonical.boundary Nfd refl (bit-one a.boundary (omega (arith, bits-low a, bits-low b, eqb-true _ 1 h)))
  boundary-bit Nfc h = canonical.boundary Nfc refl (bit-one a.boundary_composing (omega (arith, bits-low a, bits-low b, eqb-true _ 1 h)))
  boundary-bit Nfkd h = compatible.boundary Nfkd refl (bit-one b.boundary (omega (arith, bits-low a, bits-low b, eqb-true _ 1 h)))
  boundary-bit Nfkc h = compatible.boundary Nfkc refl (bit-one b.boundary_composing (omega (arith, bits-low a, bits-low b, eqb-true _ 1 h)))

  yes_starter-bit : (form : Form) → has_bit (eight_bits a b) (yes_place form) ≡ true → IsYesStarter v form c
  yes_starter-bit Nfd h = canonical.yes_starter Nfd refl (bit-one a.yes_starter (omega (arith, bits-low a, bits-low b, eqb-true _ 1 h)))
  yes_starter-bit Nfc h = canonical.yes_starter Nfc refl (bit-one a.yes_starter_composing (omega (arith, bits-low a, bits-low b, eqb-true _ 1 h)))
  yes_starter-bit Nfkd h = compatible.yes_starter Nfkd refl (bit-one b.yes_starter (omega (arith, bits-low a, bits-low b, eqb-true _ 1 h)))
  yes_starter-bit Nfkc h = compatible.yes_starter Nfkc refl (bit-one b.yes_starter_composing (omega (arith, bits-low a, bits-low b, eqb-true _ 1 h)))

  pub bits-hints : AreBits v c (eight_bits a b)
  bits-hints = record { boundary = boundary-bit; yes_starter = yes_starter-bit }

-- ---- the bits of rows

module _ (v : VersionData) (e : Entry) where
  -- no mapping, and no syllable
  pub bits-bare : (own : Hints) → e.mapping ≡ [] → touches 0xAC00 0xD7A3 e ≡ false →
      ((compat : Bool) (c : ℕ) → entry_at v.entries c ≡ Some e → is_final v compat c ≡ true → AreHints v compat c own) → AreRowBits v e (eight_bits own own)
  bits-bare own none far each c found =
      let within = entry_at-within v.entries c e found in
      let final : (compat : Bool) → is_final v compat c ≡ true = λ compat.
      empty_parts v compat c (and_right (has_hangul v) (is_syllable c) (no_syllable c e within.0 within.1 far)) (ap is_empty (file_mapping-found v c e found ∙ none)) in
      bits-hints own own v c (each false c found (final false)) (each true c found (final true))

  pub bits-syllables : IsSound v → has_hangul v ≡ true → AreLeadingNeverSecond v → 0xAC00 ≤ e.first → e.last ≤ 0xD7A3 → AreRowBits v e (eight_bits syllable_hints syllable_hints)
  bits-syllables sound on leading_consonants low high c found =
      let within = entry_at-within v.entries c e found in
      let is : is_syllable c ≡ true = among_from_bounds 0xAC00 11172 c (omega arith) (omega arith) in
      bits-hints syllable_hints syllable_hints v c (hints-syllable v sound on false c is leading_consonants) (hints-syllable v sound on true c is leading_consonants)

  -- a code point with a mapping stands alone
  pub bits-mapped : (canonical compatible : Hints) → IsRow e → e.mapping ≢ [] → AreHints v false e.first canonical → AreHints v true e.first compatible → AreRowBits v e (eight_bits canonical compatible)
  bits-mapped canonical compatible row some one two c found =
      subst (λ d. AreBits v d (eight_bits canonical compatible)) (omega (arith, row.alone some, entry_at-within v.entries c e found)) (bits-hints canonical compatible v e.first one two)

  -- what a table lends is the full decomposition
  pub lent-decomposes : (compat : Bool) (lent : List ℕ) → IsSound v → entry_at v.entries e.first ≡ Some e → (counts compat e.kind && not (is_empty e.mapping)) ≡ true → lent ≡ table_full v compat e.first →
      IsFullDecomposition v compat (e.first ∷ []) lent
  unfolding full_of
  lent-decomposes compat lent sound found is same =
      subst (IsFullDecomposition v compat (e.first ∷ [])) (sym (same ∙ row-lent v compat e.first e found is)) (IsFullDecomposition-full_of v compat sound.shallow e.first)

  pub not_lent-final : (compat : Bool) → e.mapping ≢ [] → entry_at v.entries e.first ≡ Some e → (counts compat e.kind && not (is_empty e.mapping)) ≡ false → is_final v compat e.first ≡ true
  not_lent-final compat some found none =
      let mapping = file_mapping-found v e.first e found in
      let off = mapped-off v e.first (ap is_empty mapping ∙ is_empty_from e.mapping some) in
      grind (arith, nat_tests, mapping, off, parts-passed v compat e.first, file_kind-found v e.first e found, empty_parts v compat e.first off)

-- a code point that no row has
pub bits-unlisted : (v : VersionData) (c : ℕ) → IsSound v → entry_at v.entries c ≡ None → 0 ≡ class_of v c → ((compat : Bool) → is_final v compat c ≡ true) → AreBits v c 255
bits-unlisted v c sound none class final =
    let alone = never_second-unlisted v c sound none in
    bits-hints (own_hints 0 true) (own_hints 0 true) v c (hints-own v false c 0 true (final false) class (λ _. alone)) (hints-own v true c 0 true (final true) class (λ _. alone))

-- ---- rows that have second parts

-- a row has one place
same_place : (es : List Entry) (i j : ℕ) (e : Entry) → AreRows es → slice_get es i ≡ Some e → slice_get es j ≡ Some e → i ≡ j
same_place es i j e rows at bt = grind (arith, at-row es i e rows at, ends-before es i j e e rows at bt, ends-before es j i e e rows bt at)

-- the row that has the second part of a composite is the one that is found for it
second_at : (es : List Entry) (cs : List Composite) (count j k : ℕ) (here x : Composite) (e : Entry) → AreRows es → slice_get cs count ≡ Some here → count ≡ j →
    slice_get cs j ≡ Some x → slice_get es k ≡ Some e → e.first ≤ x.second → x.second ≤ e.last → entry_at es here.second ≡ Some e
second_at es cs count j k here x e rows is there jt kt low high =
    ap (λ (y : Composite). entry_at es y.second) (same_Some here x (sym is ∙ ap (slice_get cs) there ∙ jt)) ∙ sym (at-found es k x.second e rows kt low high) ∙ kt

-- the place of the next one's second part is marked
pub seconds-more : (es : List Entry) (cs : List Composite) (count at : ℕ) (seconds : List Bool) (here : Composite) → AreRows es → AreSecondRows es cs count seconds → slice_get cs count ≡ Some here → at < length es → slice_get es at ≡ entry_at es here.second →
    AreSecondRows es cs (count + 1) (set seconds at true)
seconds-more es cs count at seconds here rows so_far is lt found =
    grind (arith, so_far.size, length-set seconds at true, get_or-set_same, get_or-set_other, so_far.each, second_at es cs count, same_place es)

-- it has no row
pub seconds-past : (es : List Entry) (cs : List Composite) (count : ℕ) (seconds : List Bool) (here : Composite) → AreRows es → AreSecondRows es cs count seconds → slice_get cs count ≡ Some here → entry_at es here.second ≡ None →
    AreSecondRows es cs (count + 1) seconds
seconds-past es cs count seconds here rows so_far is none = grind (arith, second_at, so_far.each)

-- ---- properties by rows

pub all_properties-more : (v : VersionData) (slots : List ℕ) (seconds : List Bool) (count : ℕ) (all_properties : List Properties) (properties : Properties) → AreAllRowProperties v slots seconds count all_properties →
    ((e : Entry) → slice_get v.entries count ≡ Some e → AreRowProperties v e (slice_index slots count) (get_or seconds count false) properties) → AreAllRowProperties v slots seconds (count + 1) (all_properties ++ properties ∷ [])
all_properties-more v slots seconds count all_properties properties so_far own =
    let size = so_far.size in
    record {
      size = (let grown = length-append all_properties (properties ∷ []) in omega arith);
      none = get_or_append_left all_properties (properties ∷ []) no_properties 0 (omega arith) ∙ so_far.none;
      each = λ k e lt h. elim (cases_lt k count) [
        | inl less ↦ subst (AreRowProperties v e (slice_index slots k) (get_or seconds k false)) (sym (get_or_append_left all_properties (properties ∷ []) no_properties (k + 1) (omega arith))) (so_far.each k e less h)
        | inr past ↦
            let there : count ≡ k = omega arith in
            let place : length all_properties ≡ k + 1 = omega arith in
            let read : properties ≡ get_or (all_properties ++ properties ∷ []) (k + 1) no_properties = sym (get_or-append_seam all_properties properties [] no_properties) ∙ ap (λ n. get_or (all_properties ++ properties ∷ []) n no_properties) place in
            subst (AreRowProperties v e (slice_index slots k) (get_or seconds k false)) read
            (subst (λ n. AreRowProperties v e (slice_index slots n) (get_or seconds n false) properties) there (own e (ap (slice_get v.entries) there ∙ h)))
      ];
    }

-- ---- properties by code points

pub class-found : (v : VersionData) (c : ℕ) (e : Entry) → entry_at v.entries c ≡ Some e → e.class ≡ class_of v c
unfolding class_of
class-found v c e h = sym (ap class_in h)

unassigned_single : (v : VersionData) (c : ℕ) → is_assigned v c ≡ false → (has_hangul v && is_syllable c) ≡ false
unassigned_single v c none = grind (arith, nat_tests, by_arithmetic, syllable_hangul c)

module _ (v : VersionData) (sound : IsSound v) (lists : FullLists) (slots : List ℕ) (are_slots : AreSlots v (length v.entries) lists slots) (seconds : List Bool) (marks : AreSeconds v seconds) (all_properties : List Properties)
    (are_properties : AreAllRowProperties v slots seconds (length v.entries) all_properties) where
  -- of a code point that a row has
  properties-some : (c k : ℕ) (e : Entry) (w : Properties) → slice_get v.entries k ≡ Some e → entry_at v.entries c ≡ Some e → AreRowProperties v e (slice_index slots k) (get_or seconds k false) w → ArePropertiesOf v lists c w
  unfolding row_properties is_assigned
  properties-some c k e w here found row =
      let lt = slice_get_within v.entries k e here in
      let slot = are_slots.each k e lt here in
      subst (ArePropertiesOf v lists c) (sym row.properties) (record {
        class = class-found v c e found;
        assigned = sym (ap is_some found);
        slot = record { within = slot.within; lent = λ compat. slot.lent compat ∙ row-shares v compat c k e sound.rows here found };
        never_second = λ is. row-never_second v seconds k e c marks here found is;
        hints = row.hints c found;
      })

  properties-none : (c : ℕ) → entry_at v.entries c ≡ None → ArePropertiesOf v lists c no_properties
  unfolding class_of is_assigned
  properties-none c none =
      let class : 0 ≡ class_of v c = sym (ap class_in none) in
      let assigned : false ≡ is_assigned v c = sym (ap is_some none) in
      let final : (compat : Bool) → is_final v compat c ≡ true = λ compat. empty_parts v compat c (unassigned_single v c (sym assigned)) (unlisted-bare v c none) in
      record {
        class = class;
        assigned = assigned;
        slot = record { within = are_slots.some; lent = λ compat. are_slots.none compat ∙ full-none v compat c none };
        never_second = λ _. never_second-unlisted v c sound none;
        hints = bits-unlisted v c sound none class final;
      }

  properties-number : (c number : ℕ) → IsRowNumber v.entries c number → ArePropertiesOf v lists c (get_or all_properties number no_properties)
  properties-number c number is =
      elim (cases_lt 0 number) [
        | inl some ↦
            let back : number ≡ number - 1 + 1 = omega arith in
            let here = some_at v.entries (number - 1) (is.within some) in
            let read = ap (λ n. get_or all_properties n no_properties) back in
            subst (ArePropertiesOf v lists c) (sym read)
            (properties-some c (number - 1) here.0 (get_or all_properties (number - 1 + 1) no_properties) here.1 (sym (is.row some) ∙ here.1) (are_properties.each (number - 1) here.0 (is.within some) here.1))
        | inr none ↦
            let zero_is : number ≡ 0 = omega arith in
            let read = ap (λ n. get_or all_properties n no_properties) zero_is ∙ are_properties.none in
            subst (ArePropertiesOf v lists c) (sym read) (properties-none c (is.none zero_is))
      ]

  pub pages-from : (blocks numbers index : List ℕ) (paged : List Properties) → AreRowPages v.entries blocks numbers → index ≡ blocks → paged ≡ paged_properties all_properties numbers → ArePages v lists index paged
  unfolding property_place
  pages-from blocks numbers index paged pages same is =
      let size : length (paged_properties all_properties numbers) ≡ length numbers = length-map numbers (λ n. get_or all_properties n no_properties) in
      subst (λ i. ArePages v lists i paged) (sym same) (subst (ArePages v lists blocks) (sym is) (record {
        sound = sound;
        within = record { size = pages.within.size; each = λ k lt. (let le = pages.within.each k lt in omega arith) };
        none = are_slots.none;
        each = λ c lt. (
            let low = mod-lt c {m = 256} (omega arith) in
            let le = pages.within.each (c / 256) (omega arith) in
            let place : property_place blocks c < length numbers = omega arith in
            subst (ArePropertiesOf v lists c) (sym (get_or-map (λ n. get_or all_properties n no_properties) numbers (property_place blocks c) 0 no_properties place)) (properties-number c (slice_index numbers (property_place blocks c)) (pages.each c lt)));
      }))

-- ---- what is read of the pages

pub properties-read : (v u : VersionData) → u ≡ v → (lists : FullLists) (blocks : List ℕ) (all_properties : List Properties) → ArePages u lists blocks all_properties → (c : ℕ) → c < 0x110000 → (w : Properties) →
    w ≡ get_or all_properties (property_place blocks c) no_properties → ArePropertiesOf v lists c w
properties-read v u same lists blocks all_properties pages c lt w is = subst (λ x. ArePropertiesOf x lists c w) same (subst (ArePropertiesOf u lists c) (sym is) (pages.each c lt))

-- what the checks of functions cite
pub ruleset property_answers = (all_properties-more)
