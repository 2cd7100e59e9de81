-- The rows of a file without a fault are rows in order.
use Rattle.std.proofs.Common.{◌≡◌, ◌≢◌, ℕ, ◌<◌, ◌≤◌, Bool, true, false, not, ◌&&◌, ◌||◌, cond, eqb, leb, List, [], ◌∷◌, ◌++◌, length, Option, Some, None, option_map, is_some, unwrap_or, IfSome, refl, sym, ap, ◌∙◌, arith}
use Rattle.std.specs.Option.{option_and_then, option_or}
use Rattle.std.specs.List.{list_all}
use Rattle.std.proofs.lemmas.Bool.{cond-false, true≢false, leb-true, leb-false, and_parts, and_from}
use lib.Utf8.{scalar}
use Rattle.np_code_points.specs.Codes.{code_value, is_code}
use Rattle.np_ucd.specs.Faults.{line_of}
use Rattle.np_ucd.specs.Entries.{Entry, HasLength, IsRow, IsBefore, AreRows, Plain, Canonical, Compatibility}
use Rattle.np_code_points.specs.Lines.{Numbered}
use Rattle.np_code_points.specs.inside.LineCuts.{data_lines_in, is_empty, after_byte}
use Rattle.np_code_points.specs.inside.WordCuts.{words_of}
use Rattle.np_ucd.specs.Mappings.{Mapping}
use Rattle.np_ucd.specs.Tests.{UcdFault, RangeOpen}
use Rattle.np_code_points.specs.inside.WordValues.{scalar_value, if_scalar, values_of, scalars_of, if_short}
use Rattle.np_ucd.specs.inside.FieldReading.{is_class, class_value, short_scalars, listed_mapping, mapping_at, mapping_value}
use Rattle.np_code_points.specs.declared.words.Dividers.TheVariants.{Spaces}
use Rattle.np_code_points.specs.inside.WordCuts.{divides, after_all}
use Rattle.np_ucd.specs.inside.FileReading.{end_fault, fault_after, rows_after, first_fault, rows_in}
use Rattle.np_ucd.specs.inside.RecordReading.{Neighbour, field, code_in, class_in, mapping_in, opens, closes, maps, neighbour_of, is_open, is_out_of_order, first_that_fits, record_tests, record_fault, first_code, row_of}

-- What the readings of single fields satisfy.

some_within : (b : Bool) (v bound : ℕ) → (b ≡ true → v ≤ bound) → unwrap_or (cond b (Some v) None) 0 ≤ bound
some_within true v bound h = h refl
some_within false v bound h = omega arith

pub code_bound : (text : List ℕ) → code_in text ≤ 0x10FFFF
unfolding code_in code_value
code_bound text = some_within (is_code (field 0 text)) _ 0x10FFFF (λ e. leb-true _ 0x10FFFF (and_parts _ _ (and_parts _ _ e).1).1)

pub class_bound : (text : List ℕ) → class_in text ≤ 254
unfolding class_in class_value
class_bound text = some_within (is_class (field 3 text)) _ 254 (λ e. leb-true _ 254 (and_parts _ _ e).1)

scalar_step : (b : Bool) (c : ℕ) → scalar c ≡ b → IfSome (cond b (Some c) None) (λ c. scalar c ≡ true)
scalar_step true c e = e
scalar_step false c e = tt

if_scalar-is : (o : Option ℕ) → IfSome (option_and_then if_scalar o) (λ c. scalar c ≡ true)
if_scalar-is None = tt
if_scalar-is (Some c) = scalar_step (scalar c) c refl

scalar_is : (word : List ℕ) → IfSome (scalar_value word) (λ c. scalar c ≡ true)
unfolding scalar_value
scalar_is word = if_scalar-is (code_value word)

abbrev AreScalars : Option (List ℕ) → Type 0
AreScalars o = IfSome o (λ cs. list_all scalar cs ≡ true)

scalars_rest : (c : ℕ) (rest : Option (List ℕ)) → scalar c ≡ true → AreScalars rest → AreScalars (option_map (λ codes. c ∷ codes) rest)
scalars_rest c None one all = tt
scalars_rest c (Some cs) one all = and_from (scalar c) (list_all scalar cs) one all

scalars_step : (first : Option ℕ) (rest : Option (List ℕ)) → IfSome first (λ c. scalar c ≡ true) → AreScalars rest → AreScalars (option_and_then (λ code. option_map (λ codes. code ∷ codes) rest) first)
scalars_step None rest one all = tt
scalars_step (Some c) rest one all = scalars_rest c rest one all

scalars_are : (words : List (List ℕ)) → AreScalars (scalars_of words)
unfolding values_of
scalars_are [] = refl
scalars_are (word ∷ words) = scalars_step (scalar_value word) (scalars_of words) (scalar_is word) (scalars_are words)

abbrev AreShort : ℕ → List ℕ → Type 0
AreShort most cs = (1 ≤ length cs) × (length cs ≤ most) × (list_all scalar cs ≡ true)

short_within : (most : ℕ) (cs : List ℕ) (b : Bool) → (b ≡ true → (1 ≤ length cs) × (length cs ≤ most)) → list_all scalar cs ≡ true → IfSome (cond b (Some cs) None) (AreShort most)
short_within most cs true h all = ((h refl).0, (h refl).1, all)
short_within most cs false h all = tt

short_step : (most : ℕ) (o : Option (List ℕ)) → AreScalars o → IfSome (option_and_then (if_short most) o) (AreShort most)
short_step most None all = tt
short_step most (Some cs) all =
    short_within most cs (leb 1 (length cs) && leb (length cs) most)
    (λ e. (leb-true _ _ (and_parts _ _ e).0, leb-true _ _ (and_parts _ _ e).1)) all

short_are : (most : ℕ) (text : List ℕ) → IfSome (short_scalars most text) (AreShort most)
unfolding short_scalars
short_are most text = short_step most (scalars_of (words_of Spaces text)) (scalars_are (words_of Spaces text))

-- a mapping that a row may have
record Fits (m : Mapping) : Type 0 where
  fits : HasLength m.kind (length m.codes)
  scalars : list_all scalar m.codes ≡ true

canonical_step : (o : Option (List ℕ)) → IfSome o (AreShort 2) → IfSome (option_map (λ (codes : List ℕ). let m : Mapping = record { kind = Canonical; codes = codes } in m) o) Fits
canonical_step None h = tt
canonical_step (Some cs) h = record { fits = (h.0, h.1); scalars = h.2 }

compatible_step : (o : Option (List ℕ)) → IfSome o (AreShort 32) → IfSome (option_map (λ (codes : List ℕ). let m : Mapping = record { kind = Compatibility; codes = codes } in m) o) Fits
compatible_step None h = tt
compatible_step (Some cs) h = record { fits = (h.0, h.1); scalars = h.2 }

tagged_step : (o : Option (List ℕ)) → IfSome (option_and_then (listed_mapping Compatibility 32) o) Fits
tagged_step None = tt
tagged_step (Some text) = compatible_step (short_scalars 32 text) (short_are 32 text)

either : (b : Bool) (x y : Option Mapping) → IfSome x Fits → IfSome y Fits → IfSome (cond b x y) Fits
either true x y h k = h
either false x y h k = k

mapping_fits_at : (text : List ℕ) → IfSome (mapping_at text) Fits
mapping_fits_at [] = record { fits = refl; scalars = refl }
mapping_fits_at (b ∷ bs) =
    either (eqb b 60) (option_and_then (listed_mapping Compatibility 32) (after_byte 62 bs)) (listed_mapping Canonical 2 (b ∷ bs))
    (tagged_step (after_byte 62 bs)) (canonical_step (short_scalars 2 (b ∷ bs)) (short_are 2 (b ∷ bs)))

default_fits : (o : Option Mapping) → IfSome o Fits → Fits (unwrap_or o (record { kind = Plain; codes = [] }))
default_fits None h = record { fits = refl; scalars = refl }
default_fits (Some m) h = h

mapping_fits : (text : List ℕ) → Fits (mapping_in text)
unfolding mapping_in mapping_value
mapping_fits text = default_fits (mapping_at (after_all (divides Spaces) (field 5 text))) (mapping_fits_at (after_all (divides Spaces) (field 5 text)))

-- What a record without a fault satisfies.
record Passes (before : Option Neighbour) (text : List ℕ) : Type 0 where
  order : is_out_of_order before text ≡ false
  mapping : (maps text && not (scalar (code_in text))) ≡ false
  closing : (closes text && not (is_open before)) ≡ false
  alone : ((opens text || closes text) && maps text) ≡ false

abbrev AllFalse : List (Bool × UcdFault) → Type 0
AllFalse [] = Unit {0}
AllFalse (test ∷ tests) = (test.0 ≡ false) × AllFalse tests

none_step : (t : Bool) (e : UcdFault) (rest : Option UcdFault) → cond t (Some e) rest ≡ None → (t ≡ false) × (rest ≡ None)
none_step true e rest h = absurd (cc)
none_step false e rest h = (refl, h)

none_fits : (tests : List (Bool × UcdFault)) → first_that_fits tests ≡ None → AllFalse tests
none_fits [] h = tt
none_fits (test ∷ tests) h =
    let step = none_step test.0 test.1 (first_that_fits tests) h in
    (step.0, none_fits tests step.1)

passes : (before : Option Neighbour) (line : ℕ) (text : List ℕ) → record_fault before line text ≡ None → Passes before text
unfolding record_fault record_tests neighbour_of
passes before line text h =
    let all = none_fits (record_tests before line text) h in
    record { order = all.1.1.0; mapping = all.1.1.1.1.1.1.0; closing = all.1.1.1.1.1.1.1.1.0; alone = all.1.1.1.1.1.1.1.1.1.1.0 }

not_true : (t : Bool) → not t ≡ false → t ≡ true
not_true true e = refl
not_true false e = absurd (true≢false e)

both_false : (s t : Bool) → (s && t) ≡ false → s ≡ true → t ≡ false
both_false true t e h = e
both_false false t e h = absurd (true≢false (sym h))

flipped : (s t : Bool) → (s && t) ≡ false → t ≡ true → s ≡ false
flipped true t e h = absurd (true≢false (sym h ∙ e))
flipped false t e h = refl

or_right_false : (s t : Bool) → (s || t) ≡ false → t ≡ false
or_right_false true t e = absurd (true≢false e)
or_right_false false t e = e

has_some : (codes : List ℕ) → (codes ≢ []) → not (is_empty codes) ≡ true
has_some [] h = absurd (h refl)
has_some (c ∷ cs) h = refl

-- a record that maps ends no range, and is no surrogate
maps_alone : (before : Option Neighbour) (text : List ℕ) → Passes before text → ((mapping_in text).codes ≢ []) → closes text ≡ false
maps_alone before text p h =
    let mapped : maps text ≡ true = has_some (mapping_in text).codes h in
    or_right_false (opens text) (closes text) (flipped (opens text || closes text) (maps text) p.alone mapped)

maps_scalar : (before : Option Neighbour) (text : List ℕ) → Passes before text → ((mapping_in text).codes ≢ []) → scalar (code_in text) ≡ true
maps_scalar before text p h =
    let mapped : maps text ≡ true = has_some (mapping_in text).codes h in
    not_true (scalar (code_in text)) (both_false (maps text) (not (scalar (code_in text))) p.mapping mapped)

first_alone : (before : Option Neighbour) (closing : Bool) (code : ℕ) → closing ≡ false → first_code before closing code ≡ code
first_alone None closing code e = refl
first_alone (Some b) closing code e = cond-false closing b.code code e

-- codes rise
later : (before : Neighbour) (text : List ℕ) → Passes (Some before) text → before.code < code_in text
unfolding is_out_of_order
later before text p = leb-false _ _ p.order

at_most_both : (t : Bool) (x y z : ℕ) → x ≤ z → y ≤ z → cond t x y ≤ z
at_most_both true x y z h k = h
at_most_both false x y z h k = k

first_rises : (before : Option Neighbour) (text : List ℕ) → Passes before text → first_code before (closes text) (code_in text) ≤ code_in text
first_rises None text p = omega arith
first_rises (Some b) text p = at_most_both (closes text) b.code (code_in text) (code_in text) (let l = later b text p in omega arith) (omega arith)

row_is_row : (before : Option Neighbour) (text : List ℕ) → Passes before text → IsRow (row_of before text)
unfolding row_of
row_is_row before text p = record {
  rises = first_rises before text p;
  bounded = let l = code_bound text in omega arith;
  class = class_bound text;
  fits = (mapping_fits text).fits;
  scalars = (mapping_fits text).scalars;
  alone = λ h. first_alone before (closes text) (code_in text) (maps_alone before text p h);
  mapped_scalar = λ h. ap scalar (first_alone before (closes text) (code_in text) (maps_alone before text p h)) ∙ maps_scalar before text p h;
}

abbrev IsAbove : ℕ → List Entry → Type 0
IsAbove n [] = Unit {0}
IsAbove n (e ∷ es) = n < e.first

before_from_above : (e : Entry) (rows : List Entry) → IsAbove e.last rows → IsBefore e rows
before_from_above e [] h = tt
before_from_above e (f ∷ fs) h = h

or_left_none : (x y : Option UcdFault) → option_or x y ≡ None → x ≡ None
or_left_none None y h = refl
or_left_none (Some e) y h = h

or_right_none : (x y : Option UcdFault) → option_or x y ≡ None → y ≡ None
or_right_none None y h = h
or_right_none (Some e) y h = absurd (cc)

-- a record that is no range's first begins its row above what is below the record before
closed_above : (closing opening : Bool) (n low high : ℕ) → (closing && not opening) ≡ false → closing ≡ true → (opening ≡ true → n < low) → n < low
closed_above true true n low high e h ranged = ranged refl
closed_above true false n low high e h ranged = absurd (true≢false e)
closed_above false opening n low high e h ranged = absurd (true≢false (sym h))

below_either : (opening : Bool) (n low : ℕ) → (opening ≡ true → n < low) → (opening ≡ false → n ≤ low) → n ≤ low
below_either true n low ranged shut = let l = ranged refl in omega arith
below_either false n low ranged shut = shut refl

first_above_at : (closing opening : Bool) (n low high : ℕ) → (closing && not opening) ≡ false → low < high → (opening ≡ true → n < low) → (opening ≡ false → n ≤ low) → n < cond closing low high
first_above_at true opening n low high e l ranged shut = closed_above true opening n low high e refl ranged
first_above_at false opening n low high e l ranged shut = let k = below_either opening n low ranged shut in omega arith

first_above : (b : Neighbour) (text : List ℕ) (n : ℕ) → Passes (Some b) text → (b.opens ≡ true → n < b.code) → (b.opens ≡ false → n ≤ b.code) → n < first_code (Some b) (closes text) (code_in text)
first_above b text n p ranged shut = first_above_at (closes text) (b.opens) n b.code (code_in text) p.closing (later b text p) ranged shut

first_is_above : (b : Neighbour) (text : List ℕ) (n : ℕ) → Passes (Some b) text → (b.opens ≡ true → n < b.code) → (b.opens ≡ false → n ≤ b.code) → n < (row_of (Some b) text).first
unfolding row_of
first_is_above b text n p ranged shut = first_above b text n p ranged shut

last_is : (before : Option Neighbour) (line : ℕ) (text : List ℕ) → (row_of before text).last ≤ (neighbour_of line text).code
unfolding row_of neighbour_of
last_is before line text = omega arith

above_step : (t : Bool) (n : ℕ) (row : Entry) (rows : List Entry) → (t ≡ true → IsAbove n rows) → (t ≡ false → n < row.first) → IsAbove n (cond t [] (row ∷ []) ++ rows)
above_step true n row rows h k = h refl
above_step false n row rows h k = k refl

neighbour_opens : (line : ℕ) (text : List ℕ) → (neighbour_of line text).opens ≡ opens text
unfolding neighbour_of
neighbour_opens line text = refl

neighbour_code : (line : ℕ) (text : List ℕ) → (neighbour_of line text).code ≡ code_in text
unfolding neighbour_of
neighbour_code line text = refl

below_code : (b : Neighbour) (n : ℕ) → (b.opens ≡ true → n < b.code) → (b.opens ≡ false → n ≤ b.code) → n ≤ b.code
below_code b n ranged shut = below_either b.opens n b.code ranged shut

rows_above : (b : Neighbour) (n : ℕ) (records : List Numbered) → fault_after (Some b) records ≡ None → (b.opens ≡ true → n < b.code) → (b.opens ≡ false → n ≤ b.code) → IsAbove n (rows_after (Some b) records)
unfolding fault_after rows_after
rows_above b n [] h ranged shut = tt
rows_above b n (r ∷ records) h ranged shut =
    let here = or_left_none _ _ h in
    let p = passes (Some b) r.line r.text here in
    let next = neighbour_of r.line r.text in
    let l : n < next.code = omega (arith, below_code b n ranged shut, later b r.text p, neighbour_code r.line r.text) in
    above_step (opens r.text) n (row_of (Some b) r.text) (rows_after (Some next) records)
    (λ _. rows_above next n records (or_right_none _ _ h) (λ _. l) (λ _. omega arith))
    (λ _. first_is_above b r.text n p ranged shut)

rows_step : (t : Bool) (row : Entry) (rows : List Entry) → AreRows rows → (t ≡ false → IsRow row × IsBefore row rows) → AreRows (cond t [] (row ∷ []) ++ rows)
rows_step true row rows h k = h
rows_step false row rows h k = ((k refl).0, (k refl).1, h)

rows_good : (before : Option Neighbour) (records : List Numbered) → fault_after before records ≡ None → AreRows (rows_after before records)
unfolding fault_after rows_after
rows_good before [] h = tt
rows_good before (r ∷ records) h =
    let here = or_left_none _ _ h in
    let p = passes before r.line r.text here in
    let next = neighbour_of r.line r.text in
    rows_step (opens r.text) (row_of before r.text) (rows_after (Some next) records)
    (rows_good (Some next) records (or_right_none _ _ h))
    (λ e. (
      row_is_row before r.text p,
      before_from_above (row_of before r.text) (rows_after (Some next) records)
          (rows_above next (row_of before r.text).last records (or_right_none _ _ h)
          (λ o. absurd (true≢false (sym o ∙ neighbour_opens r.line r.text ∙ e)))
          (λ _. last_is before r.line r.text)),
    ))

-- the rows of a file without a fault are rows in order
pub rows_are : (bytes : List ℕ) → first_fault bytes ≡ None → AreRows (rows_in bytes)
unfolding first_fault rows_in
rows_are bytes h = rows_good None (data_lines_in bytes) h

-- The first fault of a file has a line.
abbrev HasLine : UcdFault → Type 0
HasLine e = is_some (line_of e) ≡ true

abbrev AllHaveLines : List (Bool × UcdFault) → Type 0
AllHaveLines [] = Unit {0}
AllHaveLines (test ∷ tests) = HasLine test.1 × AllHaveLines tests

line_step : (t : Bool) (e : UcdFault) (rest : Option UcdFault) → HasLine e → IfSome rest HasLine → IfSome (cond t (Some e) rest) HasLine
line_step true e rest h k = h
line_step false e rest h k = k

first_has_line : (tests : List (Bool × UcdFault)) → AllHaveLines tests → IfSome (first_that_fits tests) HasLine
first_has_line [] all = tt
first_has_line (test ∷ tests) all = line_step test.0 test.1 (first_that_fits tests) all.0 (first_has_line tests all.1)

record_has_line : (before : Option Neighbour) (line : ℕ) (text : List ℕ) → IfSome (record_fault before line text) HasLine
unfolding record_fault record_tests neighbour_of
record_has_line before line text =
    first_has_line (record_tests before line text) (refl, (refl, (refl, (refl, (refl, (refl, (refl, (refl, (refl, (refl, (refl, tt)))))))))))

or_has_line : (x y : Option UcdFault) → IfSome x HasLine → IfSome y HasLine → IfSome (option_or x y) HasLine
or_has_line None y h k = k
or_has_line (Some e) y h k = h

end_step : (t : Bool) (line : ℕ) → IfSome (cond t (Some (RangeOpen line)) None) HasLine
end_step true line = refl
end_step false line = tt

end_has_line : (before : Option Neighbour) → IfSome (end_fault before) HasLine
end_has_line None = tt
end_has_line (Some b) = end_step b.opens b.line

fault_has_line : (before : Option Neighbour) (records : List Numbered) → IfSome (fault_after before records) HasLine
unfolding fault_after
fault_has_line before [] = end_has_line before
fault_has_line before (r ∷ records) =
    or_has_line (record_fault before r.line r.text) (fault_after (Some (neighbour_of r.line r.text)) records)
    (record_has_line before r.line r.text) (fault_has_line (Some (neighbour_of r.line r.text)) records)

pub first_line : (bytes : List ℕ) → IfSome (first_fault bytes) (λ e. is_some (line_of e) ≡ true)
unfolding first_fault
first_line bytes = fault_has_line None (data_lines_in bytes)
