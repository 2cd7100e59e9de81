-- The test that names a record's fault is the least that fits it; where none does, none fits.
use Rattle.std.proofs.Common.{◌≡◌, ℕ, ◌<◌, ◌≤◌, ◌⊎◌, Bool, true, false, not, ◌&&◌, ◌||◌, cond, eqb, leb, List, [], ◌∷◌, Option, Some, None, refl, sym, ap, subst, ◌∙◌, inl, inr, ⊎_elim, arith}
use Rattle.std.specs.List.{Contains}
use Rattle.std.specs.Str.{bytes_eq}
use lib.Utf8.{scalar}
use Rattle.std.proofs.lemmas.Bool.{false≢true, true≢false, both_ways, eqb-true, eq-eqb, leb-true, leb-false, not-false, and_parts, or_cases, or_left, or_right, cases_lt, false_from_ne_true}
use Rattle.std.proofs.lemmas.Slice.Eq.{bytes_eq-Decides}
use Rattle.np_code_points.specs.Codes.{code_value}
use Rattle.np_code_points.proofs.Elements.{contains_cases, contains_none}
use Rattle.np_ucd.specs.Faults.{line_of}
use Rattle.np_ucd.specs.Fields.{Fields, HasFields, IsCodeOf, IsCategory, IsClassOf}
use Rattle.np_ucd.specs.Mappings.{Mapping, IsMapping}
use Rattle.np_ucd.specs.Tests.{UcdFault, FieldCount, BadCode, OutOfOrder, BadCategory, BadClass, BadMapping, RangeOpen, RangeLone, RangeDiffers, RangeMaps, HasBadCode, IsOutOfOrder, HasBadCategory, HasBadClass, HasBadMapping, MapsInRange, LeavesRangeOpen, ClosesNoRange, DiffersInRange, Says, SaysBehind, Fits, test_of}
use Rattle.np_ucd.specs.declared.faults.UcdFault.TheVariants.{TooLarge, ReadFailed, Memory}
use Rattle.np_ucd.specs.inside.FieldReading.{category_value, class_value, mapping_value, opens_range}
use Rattle.np_ucd.specs.inside.RecordReading.{field, code_in, category_in, class_in, mapping_in, opens, closes, maps, Neighbour, neighbour_of, is_open, has_other_count, has_bad_code, is_at_most, is_out_of_order, has_bad_category, has_bad_class, has_unread_mapping, differs, late_tests, first_that_fits, record_tests, record_fault}
use Rattle.np_ucd.proofs.FieldGrammar.{fields_in, only_has, fifteen_are, category_said, category_read, class_read, opens_is, closes_is}
use Rattle.np_ucd.proofs.MappingGrammar.{mapping_read}
use Rattle.np_ucd.proofs.ReadGrammar.{unsaid, same_code, count_is, code_is, category_is, class_is, Read, read, not_true, maps_said, maps_read}

-- The record before, as the code keeps it and as its fields say.
pub record Matches (b : Neighbour) (g : Fields) : Type 0 where
  pub code : IsCodeOf g.code b.code
  pub category : g.category ≡ b.category
  pub class : IsClassOf g.class b.class
  pub opens : b.opens ≡ opens_range g.name

abbrev pub Match : Option Neighbour → Option Fields → Type 0
Match None None = Unit {0}
Match None (Some g) = ⊥
Match (Some b) None = ⊥
Match (Some b) (Some g) = Matches b g

-- From a test to the words of its fault.
order_said : (b : Option Neighbour) (nb : Option Fields) (text : List ℕ) → Match b nb → HasFields text (fields_in text) → IsCodeOf (field 0 text) (code_in text) → is_at_most (code_in text) b ≡ true → SaysBehind IsOutOfOrder nb text
order_said None None text m has code h = absurd (false≢true h)
order_said None (Some g) text m has code h = absurd m
order_said (Some b) None text m has code h = absurd m
order_said (Some b) (Some g) text m has code h = (fields_in text, has, (b.code, code_in text, m.code, code, leb-true (code_in text) b.code h))

open_said : (b : Option Neighbour) (nb : Option Fields) (text : List ℕ) → Match b nb → Read text → (is_open b && not (closes text)) ≡ true → SaysBehind LeavesRangeOpen nb text
open_said None None text m r h = absurd (false≢true h)
open_said None (Some g) text m r h = absurd m
open_said (Some b) None text m r h = absurd m
open_said (Some b) (Some g) text m r h =
    let both = and_parts b.opens (not (closes text)) h in
    (fields_in text, r.has, ((opens_is g.name).0 (sym m.opens ∙ both.0), λ last. both_ways (closes text) (not_true (closes text) both.1) ((closes_is (field 1 text)).1 last)))

lone_said : (b : Option Neighbour) (nb : Option Fields) (text : List ℕ) → Match b nb → Read text → (closes text && not (is_open b)) ≡ true → Says (ClosesNoRange nb) text
lone_said None None text m r h = (fields_in text, r.has, (closes_is (field 1 text)).0 (and_parts (closes text) true h).0)
lone_said None (Some g) text m r h = absurd m
lone_said (Some b) None text m r h = absurd m
lone_said (Some b) (Some g) text m r h =
    let both = and_parts (closes text) (not b.opens) h in (
      fields_in text,
      r.has,
      ((closes_is (field 1 text)).0 both.0, λ first. both_ways b.opens (not_true b.opens both.1) (m.opens ∙ (opens_is g.name).1 first)),
    )

opened : (closing opening : Bool) → (closing && not opening) ≡ false → closing ≡ true → opening ≡ true
opened true opening h e = not-false opening h
opened false opening h e = absurd (false≢true e)

differs_said : (b : Option Neighbour) (nb : Option Fields) (line : ℕ) (text : List ℕ) → Match b nb → Read text → (closes text && not (is_open b)) ≡ false → (closes text && differs b (neighbour_of line text)) ≡ true → SaysBehind DiffersInRange nb text
unfolding neighbour_of
differs_said None None line text m r lone h = absurd (false≢true (and_parts (closes text) false h).1)
differs_said None (Some g) line text m r lone h = absurd m
differs_said (Some b) None line text m r lone h = absurd m
differs_said (Some b) (Some g) line text m r lone h =
    let both = and_parts (closes text) (not (bytes_eq (category_in text) b.category) || not (eqb (class_in text) b.class)) h in (
      fields_in text,
      r.has,
      (
        (opens_is g.name).0 (sym m.opens ∙ opened (closes text) b.opens lone both.0),
        (closes_is (field 1 text)).0 both.0,
        ⊎_elim
            (λ category. inl (λ same. both_ways (bytes_eq (category_in text) b.category) (not_true _ category)
            ((bytes_eq-Decides (category_in text) b.category).1 (r.category_same ∙ same ∙ m.category))))
            (λ class. inr (b.class, class_in text, m.class, r.class, λ same. both_ways (eqb (class_in text) b.class) (not_true _ class) (eq-eqb (class_in text) b.class same)))
            (or_cases (not (bytes_eq (category_in text) b.category)) (not (eqb (class_in text) b.class)) both.1),
      ),
    )

found_step : (t : Bool) (f : UcdFault) (rest : Option UcdFault) (fault : UcdFault) (P : UcdFault → Type 0) → (t ≡ true → P f) → (t ≡ false → rest ≡ Some fault → P fault) → cond t (Some f) rest ≡ Some fault → P fault
found_step true f rest fault P here later h = let same : f ≡ fault = cc in subst P same (here refl)
found_step false f rest fault P here later h = later refl h

abbrev pub Named : Option Fields → ℕ → List ℕ → UcdFault → Type 0
Named nb line text fault = (line_of fault ≡ Some line) × Fits fault nb text

late_found : (b : Option Neighbour) (nb : Option Fields) (line : ℕ) (text : List ℕ) (fault : UcdFault) → Match b nb → Read text → first_that_fits (late_tests b (neighbour_of line text) (closes text) (maps text)) ≡ Some fault → Named nb line text fault
unfolding neighbour_of
late_found b nb line text fault m r h =
    found_step (maps text && not (scalar (code_in text))) (BadMapping line) _ fault (Named nb line text)
    (λ e. let both = and_parts (maps text) (not (scalar (code_in text))) e in
    (refl, (fields_in text, r.has, inr (maps_said text r both.0, (code_in text, r.code, not_true (scalar (code_in text)) both.1)))))
    (λ _ h7. found_step (is_open b && not (closes text)) (RangeOpen line) _ fault (Named nb line text)
    (λ e. (refl, open_said b nb text m r e))
    (λ _ h8. found_step (closes text && not (is_open b)) (RangeLone line) _ fault (Named nb line text)
    (λ e. (refl, lone_said b nb text m r e))
    (λ lone h9. found_step (closes text && differs b (neighbour_of line text)) (RangeDiffers line) _ fault (Named nb line text)
    (λ e. (refl, differs_said b nb line text m r lone e))
    (λ _ h10. found_step ((opens text || closes text) && maps text) (RangeMaps line) None fault (Named nb line text)
    (λ e. let both = and_parts (opens text || closes text) (maps text) e in
    (refl, (fields_in text, r.has, (⊎_elim (λ o. inl ((opens_is (field 1 text)).0 o)) (λ c. inr ((closes_is (field 1 text)).0 c)) (or_cases (opens text) (closes text) both.0), maps_said text r both.1))))
    (λ _ none. absurd (cc))
    h10) h9) h8) h7) h

no_fields : (text : List ℕ) → has_other_count text ≡ true → (f : Fields) → HasFields text f → ⊥
unfolding has_other_count
no_fields text h f has = both_ways _ (not_true _ h) (eq-eqb _ 15 (fifteen_are text f has))

bad_code : (text : List ℕ) → has_bad_code text ≡ true → (code : ℕ) → IsCodeOf (field 0 text) code → ⊥
unfolding has_bad_code
bad_code text h code is = unsaid (code_value (field 0 text)) code h is

bad_category : (text : List ℕ) → has_bad_category text ≡ true → IsCategory (field 2 text) → ⊥
unfolding has_bad_category
bad_category text h is = unsaid (category_value (field 2 text)) (field 2 text) h (category_read (field 2 text) is)

bad_class : (text : List ℕ) → has_bad_class text ≡ true → (class : ℕ) → IsClassOf (field 3 text) class → ⊥
unfolding has_bad_class
bad_class text h class is = unsaid (class_value (field 3 text)) class h (class_read (field 3 text) class is)

bad_mapping : (text : List ℕ) → has_unread_mapping text ≡ true → (to : Mapping) → IsMapping (field 5 text) to → ⊥
unfolding has_unread_mapping
bad_mapping text h to is = unsaid (mapping_value (field 5 text)) to h (mapping_read (field 5 text) to is)

at_most : (b : Option Neighbour) (text : List ℕ) (t : Bool) → is_out_of_order b text ≡ t → is_at_most (code_in text) b ≡ t
unfolding is_out_of_order
at_most b text t h = h

pub found : (b : Option Neighbour) (nb : Option Fields) (line : ℕ) (text : List ℕ) (fault : UcdFault) → Match b nb → record_fault b line text ≡ Some fault → Named nb line text fault
unfolding record_fault record_tests
found b nb line text fault m h =
    found_step (has_other_count text) (FieldCount line) _ fault (Named nb line text) (λ e. (refl, no_fields text e))
    (λ count h2. found_step (has_bad_code text) (BadCode line) _ fault (Named nb line text) (λ e. (refl, (fields_in text, count_is text count, bad_code text e)))
    (λ code h3. found_step (is_out_of_order b text) (OutOfOrder line) _ fault (Named nb line text)
    (λ e. (refl, order_said b nb text m (count_is text count) (code_is text code) (at_most b text true e)))
    (λ order h4. found_step (has_bad_category text) (BadCategory line) _ fault (Named nb line text) (λ e. (refl, (fields_in text, count_is text count, bad_category text e)))
    (λ category h5. found_step (has_bad_class text) (BadClass line) _ fault (Named nb line text) (λ e. (refl, (fields_in text, count_is text count, bad_class text e)))
    (λ class h6. found_step (has_unread_mapping text) (BadMapping line) _ fault (Named nb line text) (λ e. (refl, (fields_in text, count_is text count, inl (bad_mapping text e))))
    (λ mapping late. late_found b nb line text fault m (read text count code category class mapping) late)
    h6) h5) h4) h3) h2) h

-- From the words of a fault to its test: where no test up to its own fits, neither do the words.
abbrev Passes : Option Neighbour → ℕ → List ℕ → ℕ → Type 0
Passes b line text n = (t : Bool) (f : UcdFault) → Contains (record_tests b line text) (t, f) → test_of f ≤ n → t ≡ false

both_not : (s t : Bool) → (s && t) ≡ false → s ≡ true → t ≡ true → ⊥
both_not true true h a b = true≢false h
both_not true false h a b = false≢true b
both_not false t h a b = false≢true a

read_at : (b : Option Neighbour) (line : ℕ) (text : List ℕ) (n : ℕ) → Passes b line text n → 6 ≤ n → Read text
unfolding record_tests
read_at b line text n past l =
    read text (past _ (FieldCount line) (0, omega arith, refl) (omega arith)) (past _ (BadCode line) (1, omega arith, refl) (omega arith)) (past _ (BadCategory line) (3, omega arith, refl) (omega arith))
    (past _ (BadClass line) (4, omega arith, refl) (omega arith)) (past _ (BadMapping line) (5, omega arith, refl) l)

-- what is said of a record's fields is said of those that are read
here : (P : Fields → Type 0) (text : List ℕ) → Says P text → P (fields_in text)
here P text h = subst P (only_has text h.0 h.1) h.2

not_at_most : (a c : ℕ) → leb a c ≡ false → a ≤ c → ⊥
not_at_most a c h l = let lt = leb-false a c h in absurd (omega arith)

order_unfit : (b : Option Neighbour) (nb : Option Fields) (text : List ℕ) → Match b nb → IsCodeOf (field 0 text) (code_in text) → is_at_most (code_in text) b ≡ false → SaysBehind IsOutOfOrder nb text → ⊥
order_unfit b None text m code h says = says
order_unfit None (Some g) text m code h says = m
order_unfit (Some b) (Some g) text m code h says =
    let is = here (IsOutOfOrder g) text says in
    let earlier : is.0 ≡ b.code = same_code g.code is.0 b.code is.2 m.code in
    let later : is.1 ≡ code_in text = same_code (field 0 text) is.1 (code_in text) is.3 code in
    not_at_most (code_in text) b.code h (omega (arith, is.4))

mapping_unfit : (text : List ℕ) → Read text → (maps text && not (scalar (code_in text))) ≡ false → HasBadMapping (fields_in text) → ⊥
mapping_unfit text r h bad =
    ⊎_elim (λ none. none (mapping_in text) r.mapping)
    (λ some.
    let code : some.1.0 ≡ code_in text = same_code (field 0 text) some.1.0 (code_in text) some.1.1 r.code in
    both_not (maps text) (not (scalar (code_in text))) h (maps_read text r some.0) (ap not (ap scalar (sym code) ∙ some.1.2)))
    bad

open_unfit : (b : Option Neighbour) (nb : Option Fields) (text : List ℕ) → Match b nb → (is_open b && not (closes text)) ≡ false → SaysBehind LeavesRangeOpen nb text → ⊥
open_unfit b None text m h says = says
open_unfit None (Some g) text m h says = m
open_unfit (Some b) (Some g) text m h says =
    let is = here (LeavesRangeOpen g) text says in
    both_not b.opens (not (closes text)) h (m.opens ∙ (opens_is g.name).1 is.0)
    (ap not (false_from_ne_true (closes text) (λ e. is.1 ((closes_is (field 1 text)).0 e))))

lone_unfit : (b : Option Neighbour) (nb : Option Fields) (text : List ℕ) → Match b nb → (closes text && not (is_open b)) ≡ false → Says (ClosesNoRange nb) text → ⊥
lone_unfit None None text m h says = both_not (closes text) true h ((closes_is (field 1 text)).1 (here (ClosesNoRange None) text says)) refl
lone_unfit None (Some g) text m h says = m
lone_unfit (Some b) None text m h says = m
lone_unfit (Some b) (Some g) text m h says =
    let is = here (ClosesNoRange (Some g)) text says in
    both_not (closes text) (not b.opens) h ((closes_is (field 1 text)).1 is.0)
    (ap not (false_from_ne_true b.opens (λ e. is.1 ((opens_is g.name).0 (sym m.opens ∙ e)))))

same_class : (text : List ℕ) (a c : ℕ) → IsClassOf text a → IsClassOf text c → a ≡ c
same_class text a c h k = h.value ∙ sym k.value

differ_true : (s t : Bool) → (s ≡ false) ⊎ (t ≡ false) → (not s || not t) ≡ true
differ_true true true h = absurd (⊎_elim (λ e. true≢false e) (λ e. true≢false e) h)
differ_true true false h = refl
differ_true false t h = refl

differs_unfit : (b : Option Neighbour) (nb : Option Fields) (line : ℕ) (text : List ℕ) → Match b nb → Read text → (closes text && differs b (neighbour_of line text)) ≡ false → SaysBehind DiffersInRange nb text → ⊥
unfolding neighbour_of
differs_unfit b None line text m r h says = says
differs_unfit None (Some g) line text m r h says = m
differs_unfit (Some b) (Some g) line text m r h says =
    let is = here (DiffersInRange g) text says in
    both_not (closes text) (not (bytes_eq (category_in text) b.category) || not (eqb (class_in text) b.class)) h ((closes_is (field 1 text)).1 is.1)
    (differ_true (bytes_eq (category_in text) b.category) (eqb (class_in text) b.class)
    (⊎_elim
    (λ category. inl (false_from_ne_true (bytes_eq (category_in text) b.category) (λ e.
    category (sym r.category_same ∙ (bytes_eq-Decides (category_in text) b.category).0 e ∙ sym m.category))))
    (λ class. inr (false_from_ne_true (eqb (class_in text) b.class) (λ e.
    class.4 (same_class (field 3 text) class.1 (class_in text) class.3 r.class ∙ eqb-true (class_in text) b.class e ∙ same_class g.class b.class class.0 m.class class.2))))
    is.2))

maps_unfit : (text : List ℕ) → Read text → ((opens text || closes text) && maps text) ≡ false → MapsInRange (fields_in text) → ⊥
maps_unfit text r h is =
    both_not (opens text || closes text) (maps text) h
    (⊎_elim (λ o. or_left (opens text) (closes text) ((opens_is (field 1 text)).1 o)) (λ c. or_right (opens text) (closes text) ((closes_is (field 1 text)).1 c)) is.0)
    (maps_read text r is.1)

pub unfit : (b : Option Neighbour) (nb : Option Fields) (line : ℕ) (text : List ℕ) (other : UcdFault) → Match b nb → Passes b line text (test_of other) → Fits other nb text → ⊥
unfolding is_out_of_order record_tests neighbour_of
unfit b nb line text (FieldCount n) m past fits = fits (fields_in text) (count_is text (past _ (FieldCount line) (0, omega arith, refl) (omega arith)))
unfit b nb line text (BadCode n) m past fits =
    here HasBadCode text fits (code_in text) (code_is text (past _ (BadCode line) (1, omega arith, refl) (omega arith)))
unfit b nb line text (OutOfOrder n) m past fits =
    order_unfit b nb text m (code_is text (past _ (BadCode line) (1, omega arith, refl) (omega arith))) (past _ (OutOfOrder line) (2, omega arith, refl) (omega arith)) fits
unfit b nb line text (BadCategory n) m past fits =
    here HasBadCategory text fits (category_said (field 2 text) (category_in text) (category_is text (past _ (BadCategory line) (3, omega arith, refl) (omega arith)))).0
unfit b nb line text (BadClass n) m past fits =
    here HasBadClass text fits (class_in text) (class_is text (past _ (BadClass line) (4, omega arith, refl) (omega arith)))
unfit b nb line text (BadMapping n) m past fits =
    mapping_unfit text (read_at b line text 6 past (omega arith)) (past _ (BadMapping line) (6, omega arith, refl) (omega arith)) (here HasBadMapping text fits)
unfit b nb line text (RangeOpen n) m past fits = open_unfit b nb text m (past _ (RangeOpen line) (7, omega arith, refl) (omega arith)) fits
unfit b nb line text (RangeLone n) m past fits = lone_unfit b nb text m (past _ (RangeLone line) (8, omega arith, refl) (omega arith)) fits
unfit b nb line text (RangeDiffers n) m past fits =
    differs_unfit b nb line text m (read_at b line text 9 past (omega arith)) (past _ (RangeDiffers line) (9, omega arith, refl) (omega arith)) fits
unfit b nb line text (RangeMaps n) m past fits =
    maps_unfit text (read_at b line text 10 past (omega arith)) (past _ (RangeMaps line) (10, omega arith, refl) (omega arith)) (here MapsInRange text fits)
unfit b nb line text TooLarge m past fits = fits
unfit b nb line text ReadFailed m past fits = fits
unfit b nb line text Memory m past fits = fits

-- The tests in front of the first that fits do not.
abbrev Test : Type 0
Test = Bool × UcdFault

abbrev Rising : ℕ → List Test → Type 0
Rising n [] = Unit {0}
Rising n (test ∷ tests) = (n ≤ test_of test.1) × Rising (test_of test.1) tests

later_ranks : (n : ℕ) (tests : List Test) (t : Bool) (f : UcdFault) → Rising n tests → Contains tests (t, f) → n ≤ test_of f
later_ranks n [] t f h in' = absurd (contains_none (t, f) in')
later_ranks n (test ∷ tests) t f h in' =
    ⊎_elim (λ same. let e = ap (λ (x : Test). test_of x.1) same in omega (arith, h.0, e))
    (λ more. let l = later_ranks (test_of test.1) tests t f h.1 more in omega (arith, h.0))
    (contains_cases test (t, f) tests in')

earlier_step : (s : Bool) (g fault : UcdFault) (tests : List Test) (t : Bool) (f : UcdFault) → Rising (test_of g) tests → Contains ((s, g) ∷ tests) (t, f) → cond s (Some g) (first_that_fits tests) ≡ Some fault → test_of f < test_of fault → (first_that_fits tests ≡ Some fault → Contains tests (t, f) → t ≡ false) → t ≡ false
earlier_step true g fault tests t f h in' e l ih =
    let same : g ≡ fault = cc in
    let rank = ap test_of same in
    absurd (⊎_elim (λ first. let k = ap (λ (x : Test). test_of x.1) first in absurd (omega (arith, k)))
    (λ more. let k = later_ranks (test_of g) tests t f h more in absurd (omega arith))
    (contains_cases (true, g) (t, f) tests in'))
earlier_step false g fault tests t f h in' e l ih =
    ⊎_elim (λ first. sym (ap (λ (x : Test). x.0) first)) (λ more. ih e more) (contains_cases (false, g) (t, f) tests in')

earlier_false : (n : ℕ) (tests : List Test) (fault : UcdFault) (t : Bool) (f : UcdFault) → Rising n tests → first_that_fits tests ≡ Some fault → Contains tests (t, f) → test_of f < test_of fault → t ≡ false
earlier_false n [] fault t f h e in' l = absurd (contains_none (t, f) in')
earlier_false n (test ∷ tests) fault t f h e in' l =
    earlier_step test.0 test.1 fault tests t f h.1 in' e l (λ e' more. earlier_false (test_of test.1) tests fault t f h.1 e' more l)

none_step : (s : Bool) (g : UcdFault) (tests : List Test) (t : Bool) (f : UcdFault) → Contains ((s, g) ∷ tests) (t, f) → cond s (Some g) (first_that_fits tests) ≡ None → (first_that_fits tests ≡ None → Contains tests (t, f) → t ≡ false) → t ≡ false
none_step true g tests t f in' e ih = absurd (cc)
none_step false g tests t f in' e ih =
    ⊎_elim (λ first. sym (ap (λ (x : Test). x.0) first)) (λ more. ih e more) (contains_cases (false, g) (t, f) tests in')

none_true : (tests : List Test) (t : Bool) (f : UcdFault) → first_that_fits tests ≡ None → Contains tests (t, f) → t ≡ false
none_true [] t f e in' = absurd (contains_none (t, f) in')
none_true (test ∷ tests) t f e in' = none_step test.0 test.1 tests t f in' e (λ e' more. none_true tests t f e' more)

ranks : (b : Option Neighbour) (line : ℕ) (text : List ℕ) → Rising 1 (record_tests b line text)
unfolding record_tests neighbour_of
ranks b line text = (omega arith, (omega arith, (omega arith, (omega arith, (omega arith, (omega arith, (omega arith, (omega arith, (omega arith, (omega arith, (omega arith, tt)))))))))))

pub least : (b : Option Neighbour) (nb : Option Fields) (line : ℕ) (text : List ℕ) (fault other : UcdFault) → Match b nb → record_fault b line text ≡ Some fault → Fits other nb text → test_of fault ≤ test_of other
unfolding record_fault
least b nb line text fault other m h fits =
    ⊎_elim
    (λ low. absurd (unfit b nb line text other m
    (λ t f in' l. earlier_false 1 (record_tests b line text) fault t f (ranks b line text) h in' (omega arith)) fits))
    (λ high. high)
    (cases_lt (test_of other) (test_of fault))

pub nothing_fits : (b : Option Neighbour) (nb : Option Fields) (line : ℕ) (text : List ℕ) (other : UcdFault) → Match b nb → record_fault b line text ≡ None → Fits other nb text → ⊥
unfolding record_fault
nothing_fits b nb line text other m h fits =
    unfit b nb line text other m (λ t f in' l. none_true (record_tests b line text) t f h in') fits

-- What a record without a fault says.
pub read_fine : (b : Option Neighbour) (line : ℕ) (text : List ℕ) → record_fault b line text ≡ None → Read text
unfolding record_fault
read_fine b line text h = read_at b line text 6 (λ t f in' l. none_true (record_tests b line text) t f h in') (omega arith)

pub closing_fine : (b : Option Neighbour) (line : ℕ) (text : List ℕ) → record_fault b line text ≡ None → (closes text && not (is_open b)) ≡ false
unfolding record_fault record_tests neighbour_of
closing_fine b line text h = none_true (record_tests b line text) (closes text && not (is_open b)) (RangeLone line) h (8, omega arith, refl)

pub matches : (line : ℕ) (text : List ℕ) → Read text → Matches (neighbour_of line text) (fields_in text)
unfolding neighbour_of
matches line text r = record { code = r.code; category = sym r.category_same; class = r.class; opens = refl }
