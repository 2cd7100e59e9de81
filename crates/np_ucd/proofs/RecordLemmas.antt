-- From what was read of a record to the tests that fit it.
use Rattle.std.proofs.Common.{◌≡◌, ◌≢◌, zero, suc, ℕ, ◌+◌, ◌<◌, ◌&&◌, Bool, true, false, not, eqb, List, [], ◌∷◌, length, take, drop, get_or, Option, Some, None, Bor, is_none, option_map, unwrap_or, refl, sym, ap, ◌∙◌, arith}
use Rattle.std.specs.List.{list_all, onto_first}
use Rattle.std.proofs.lemmas.List.Splits.{slice_split-cons_yes, slice_split-cons_no}
use Rattle.std.proofs.lemmas.Bool.{false≢true, cond-true, cond-false, ne_eqb, eq-eqb}
use Rattle.np_code_points.specs.Codes.{code_value}
use Rattle.np_ucd.specs.Entries.{Entry, Plain}
use Rattle.np_code_points.proofs.LineLemmas.{split_cut, rest_parts}
use Rattle.np_code_points.specs.inside.LineCuts.{is_byte, is_other, is_empty, before_byte, after_byte}
use Rattle.np_ucd.specs.Mappings.{Mapping}
use Rattle.np_ucd.specs.Tests.{FieldCount, BadCode, OutOfOrder, BadCategory, BadClass, BadMapping}
use Rattle.np_ucd.specs.inside.FieldReading.{fields_of, category_value, class_value, mapping_value}
use Rattle.np_ucd.specs.inside.RecordReading.{IsPlain, plain_entry, Neighbour, field, code_in, category_in, class_in, mapping_in, opens, closes, maps, neighbour_of, is_at_most, has_other_count, has_bad_code, is_out_of_order, has_bad_category, has_bad_class, has_unread_mapping, late_tests, first_that_fits, record_tests, record_fault, first_code, row_of}
use Rattle.np_ucd.specs.inside.RecordValues.{IsHead}

-- The fields, one after another.
pub fields_some : (xs rest : List ℕ) → after_byte 59 xs ≡ Some rest → fields_of xs ≡ before_byte 59 xs ∷ fields_of rest
unfolding fields_of
fields_some xs rest h = split_cut (is_byte 59) xs ∙ ap (λ o. before_byte 59 xs ∷ rest_parts (is_byte 59) o) h

pub fields_none : (xs : List ℕ) → after_byte 59 xs ≡ None → length (fields_of xs) ≡ 1
unfolding fields_of
fields_none xs h = ap length (split_cut (is_byte 59) xs ∙ ap (λ o. before_byte 59 xs ∷ rest_parts (is_byte 59) o) h)

-- the same of a cut at the first ';'
pub cut_field : (xs field : List ℕ) (rest : Bor (List ℕ)) (behind : Option (Bor (List ℕ))) → field ≡ before_byte 59 xs → option_map (λ (r : Bor (List ℕ)). r.now) behind ≡ after_byte 59 xs → behind ≡ Some rest → fields_of xs ≡ field ∷ fields_of rest.now
cut_field xs field rest behind before after is =
    fields_some xs rest.now (sym after ∙ ap (option_map (λ (r : Bor (List ℕ)). r.now)) is)
    ∙ ap (λ f. f ∷ fields_of rest.now) (sym before)

pub cut_no_field : (xs : List ℕ) (behind : Option (Bor (List ℕ))) → option_map (λ (r : Bor (List ℕ)). r.now) behind ≡ after_byte 59 xs → behind ≡ None → length (fields_of xs) ≡ 1
cut_no_field xs behind after is = fields_none xs (sym after ∙ ap (option_map (λ (r : Bor (List ℕ)). r.now)) is)

none_step : (t u : Bool) → (not t && u) ≡ true → (t ≡ false) × (u ≡ true)
none_step true u h = absurd (false≢true h)
none_step false u h = (refl, h)

-- a field of n bytes, which are no ';'
pub field_at : (n : ℕ) (xs : List ℕ) → n < length xs → list_all (is_other 59) (take n xs) ≡ true → get_or xs n 0 ≡ 59 → fields_of xs ≡ take n xs ∷ fields_of (drop (n + 1) xs)
unfolding fields_of
field_at n [] short none end = absurd (omega (arith, short))
field_at zero (x ∷ xs) short none end = slice_split-cons_yes (λ b. eqb b 59) x xs (eq-eqb x 59 end)
field_at (suc n) (x ∷ xs) short none end =
    let both = none_step (eqb x 59) (list_all (is_other 59) (take n xs)) none in
    let more : suc (n + 1) ≡ suc n + 1 = omega arith in
    slice_split-cons_no (λ b. eqb b 59) x xs both.0
    ∙ ap (onto_first x) (field_at n xs (omega (arith, short)) both.1 end)
    ∙ ap (λ k. take (suc n) (x ∷ xs) ∷ fields_of (drop k (x ∷ xs))) more

pub twelve : (text rest a b c : List ℕ) → fields_of text ≡ a ∷ b ∷ c ∷ fields_of rest → length (fields_of rest) ≡ 9 → (length (fields_of text) ≡ 12) × (a ≡ field 0 text) × (c ≡ field 2 text)
unfolding field
twelve text rest a b c h nine = (
  omega (arith, ap length h, nine),
  sym (ap (λ ps. get_or ps 0 []) h),
  sym (ap (λ ps. get_or ps 2 []) h),
)

pub fifteen : (text rest a b c d f : List ℕ) → fields_of text ≡ a ∷ b ∷ c ∷ fields_of rest → (length (fields_of rest) ≡ 12) × (d ≡ field 0 rest) × (f ≡ field 2 rest) → (length (fields_of text) ≡ 15) × (a ≡ field 0 text) × (b ≡ field 1 text) × (c ≡ field 2 text) × (d ≡ field 3 text) × (f ≡ field 5 text)
unfolding field
fifteen text rest a b c d f h behind = (
  omega (arith, ap length h, behind.0),
  sym (ap (λ ps. get_or ps 0 []) h),
  sym (ap (λ ps. get_or ps 1 []) h),
  sym (ap (λ ps. get_or ps 2 []) h),
  behind.1 ∙ sym (ap (λ ps. get_or ps 3 []) h),
  behind.2 ∙ sym (ap (λ ps. get_or ps 5 []) h),
)

-- A field says what was read of its text.
pub said : {A : Type 0} (value : List ℕ → Option A) {o r : Option A} {x field : List ℕ} → x ≡ field → o ≡ value x → o ≡ r → value field ≡ r
said value same reads is = ap value (sym same) ∙ sym reads ∙ is

unreadable : {A : Type 0} {o : Option A} → o ≡ None → is_none o ≡ true
unreadable h = ap is_none h

readable : {A : Type 0} {o : Option A} {a : A} → o ≡ Some a → is_none o ≡ false
readable h = ap is_none h

-- The first test that fits, and those in front of it, which don't.
pub fault_count : (before : Option Neighbour) (line : ℕ) (text : List ℕ) → (length (fields_of text) ≢ 15) → record_fault before line text ≡ Some (FieldCount line)
unfolding record_fault record_tests has_other_count
fault_count before line text h = cond-true _ _ _ (ap not (ne_eqb (length (fields_of text)) 15 h))

counted : (text : List ℕ) → length (fields_of text) ≡ 15 → has_other_count text ≡ false
unfolding has_other_count
counted text h = ap not (eq-eqb (length (fields_of text)) 15 h)

order_is : (before : Option Neighbour) (text : List ℕ) (code : ℕ) (t : Bool) → code_value (field 0 text) ≡ Some code → is_at_most code before ≡ t → is_out_of_order before text ≡ t
unfolding is_out_of_order code_in
order_is before text code t reads h = ap (λ o. is_at_most (unwrap_or o 0) before) reads ∙ h

module _ (before : Option Neighbour) (line : ℕ) (text : List ℕ) (count : length (fields_of text) ≡ 15) where
  pub fault_code : code_value (field 0 text) ≡ None → record_fault before line text ≡ Some (BadCode line)
  unfolding record_fault record_tests has_bad_code
  fault_code none = cond-false _ _ _ (counted text count) ∙ cond-true _ _ _ (unreadable none)

  pub fault_order : (code : ℕ) → code_value (field 0 text) ≡ Some code → is_at_most code before ≡ true → record_fault before line text ≡ Some (OutOfOrder line)
  unfolding record_fault record_tests has_bad_code
  fault_order code reads low =
      cond-false _ _ _ (counted text count) ∙ cond-false _ _ _ (readable reads) ∙ cond-true _ _ _ (order_is before text code true reads low)

  pub fault_category : (code : ℕ) → code_value (field 0 text) ≡ Some code → is_at_most code before ≡ false → category_value (field 2 text) ≡ None → record_fault before line text ≡ Some (BadCategory line)
  unfolding record_fault record_tests has_bad_code has_bad_category
  fault_category code reads above none =
      cond-false _ _ _ (counted text count) ∙ cond-false _ _ _ (readable reads) ∙ cond-false _ _ _ (order_is before text code false reads above)
      ∙ cond-true _ _ _ (unreadable none)

  pub fault_class : (code : ℕ) (category : List ℕ) → code_value (field 0 text) ≡ Some code → is_at_most code before ≡ false → category_value (field 2 text) ≡ Some category → class_value (field 3 text) ≡ None → record_fault before line text ≡ Some (BadClass line)
  unfolding record_fault record_tests has_bad_code has_bad_category has_bad_class
  fault_class code category reads above categorized none =
      cond-false _ _ _ (counted text count) ∙ cond-false _ _ _ (readable reads) ∙ cond-false _ _ _ (order_is before text code false reads above)
      ∙ cond-false _ _ _ (readable categorized) ∙ cond-true _ _ _ (unreadable none)

  -- a record that none of them fits
  pub head_is : (n : Neighbour) (closing : Bool) (mapping : List ℕ) → n.line ≡ line → code_value (field 0 text) ≡ Some n.code → is_at_most n.code before ≡ false → category_value (field 2 text) ≡ Some n.category → class_value (field 3 text) ≡ Some n.class → n.opens ≡ opens text → closing ≡ closes text → mapping ≡ field 5 text → IsHead before line text n closing mapping
  unfolding has_bad_code has_bad_category has_bad_class neighbour_of code_in category_in class_in
  head_is n closing mapping here reads above categorized classed opening closing_is mapping_is = record {
    count = counted text count;
    code = readable reads;
    order = order_is before text n.code false reads above;
    category = readable categorized;
    class = readable classed;
    neighbour_is = rw (reads, categorized, classed, ← here, ← opening) refl;
    closing_is = closing_is;
    mapping_is = mapping_is;
  }

-- What is left to judge behind a head.
past_head : {before : Option Neighbour} {line : ℕ} {text : List ℕ} {n : Neighbour} {closing : Bool} {mapping : List ℕ} → IsHead before line text n closing mapping → record_fault before line text ≡ first_that_fits ((has_unread_mapping text, BadMapping line) ∷ late_tests before (neighbour_of line text) (closes text) (maps text))
unfolding record_fault record_tests
past_head h =
    cond-false _ _ _ h.count ∙ cond-false _ _ _ h.code ∙ cond-false _ _ _ h.order ∙ cond-false _ _ _ h.category ∙ cond-false _ _ _ h.class

pub fault_mapping : {before : Option Neighbour} {line : ℕ} {text : List ℕ} {n : Neighbour} {closing : Bool} {mapping : List ℕ} → IsHead before line text n closing mapping → mapping_value mapping ≡ None → record_fault before line text ≡ Some (BadMapping line)
unfolding has_unread_mapping
fault_mapping h none = past_head h ∙ cond-true _ _ _ (unreadable (ap mapping_value (sym h.mapping_is) ∙ none))

mapping_is : (text : List ℕ) (m : Mapping) → mapping_value (field 5 text) ≡ Some m → mapping_in text ≡ m
unfolding mapping_in
mapping_is text m h = ap (λ o. unwrap_or o (record { kind = Plain; codes = [] })) h

-- what is judged once the mapping is read
pub fault_late : {before : Option Neighbour} {line : ℕ} {text : List ℕ} {n : Neighbour} {closing : Bool} {mapping : List ℕ} → IsHead before line text n closing mapping → (m : Mapping) (mapped : Bool) → mapping_value mapping ≡ Some m → mapped ≡ not (is_empty m.codes) → record_fault before line text ≡ first_that_fits (late_tests before n closing mapped)
unfolding has_unread_mapping
fault_late {before = before} {line = line} {text = text} {closing = closing} h m mapped some e =
    let here : mapping_value (field 5 text) ≡ Some m = ap mapping_value (sym h.mapping_is) ∙ some in
    let maps_is : maps text ≡ mapped = ap (λ (k : Mapping). not (is_empty k.codes)) (mapping_is text m here) ∙ sym e in
    past_head h ∙ cond-false _ _ _ (readable here)
    ∙ ap (λ o. first_that_fits (late_tests before (neighbour_of line text) (closes text) o)) maps_is
    ∙ ap (λ c. first_that_fits (late_tests before (neighbour_of line text) c mapped)) (sym h.closing_is)
    ∙ ap (λ k. first_that_fits (late_tests before k closing mapped)) (sym h.neighbour_is)

-- the row
pub row_is : {before : Option Neighbour} {line : ℕ} {text : List ℕ} {n : Neighbour} {closing : Bool} {mapping : List ℕ} → IsHead before line text n closing mapping → (m : Mapping) (first : ℕ) → mapping_value mapping ≡ Some m → first ≡ first_code before closing n.code → ◌≡◌ {A = Entry} (record { first = first; last = n.code; class = n.class; kind = m.kind; mapping = m.codes }) (row_of before text)
unfolding row_of neighbour_of
row_is {text = text} h m first some e =
    let here : mapping_value (field 5 text) ≡ Some m = ap mapping_value (sym h.mapping_is) ∙ some in
    rw (e, h.neighbour_is, h.closing_is, mapping_is text m here)

-- A plain record.
bare_mapping : mapping_value [] ≡ Some (record { kind = Plain; codes = [] })
unfolding mapping_value
bare_mapping = refl

nothing_late : (before : Option Neighbour) (n : Neighbour) (closing : Bool) (mapping : List ℕ) → IsPlain before n.opens closing mapping → first_that_fits (late_tests before n closing false) ≡ None
nothing_late before n closing mapping p = rw (p.shut, p.closing, p.opening) refl

pub plain_fine : {before : Option Neighbour} {line : ℕ} {text : List ℕ} {n : Neighbour} {closing : Bool} {mapping : List ℕ} → IsHead before line text n closing mapping → IsPlain before n.opens closing mapping → record_fault before line text ≡ None
plain_fine {before = before} {n = n} {closing = closing} {mapping = mapping} h p =
    fault_late h (record { kind = Plain; codes = [] }) false (ap mapping_value p.bare ∙ bare_mapping) refl ∙ nothing_late before n closing mapping p

first_alone : (before : Option Neighbour) (code : ℕ) → code ≡ first_code before false code
first_alone None code = refl
first_alone (Some b) code = refl

pub plain_row_is : {before : Option Neighbour} {line : ℕ} {text : List ℕ} {n : Neighbour} {closing : Bool} {mapping : List ℕ} → IsHead before line text n closing mapping → IsPlain before n.opens closing mapping → plain_entry n.code n.class ≡ row_of before text
plain_row_is {before = before} {n = n} h p =
    row_is h (record { kind = Plain; codes = [] }) n.code (ap mapping_value p.bare ∙ bare_mapping) (first_alone before n.code ∙ ap (λ c. first_code before c n.code) (sym p.closing))
