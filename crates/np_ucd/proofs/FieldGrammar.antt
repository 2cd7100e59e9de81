-- The fields of a record, and what they say, are those of the grammar, and no other.
use Rattle.std.proofs.Common.{◌≡◌, ◌≢◌, ℕ, ◌+◌, ◌-◌, ◌*◌, ◌≤◌, Bool, true, false, not, ◌&&◌, cond, eqb, leb, List, [], ◌∷◌, ◌++◌, length, fold, get_or, take, codes, nat_eq, Some, None, ◌↔◌, refl, sym, ap, subst, ◌∙◌, inl, inr, ⊎_elim, arith}
use Rattle.std.specs.List.{All, list_all, slice_split, onto_first, join_with_byte, ends_with}
use Rattle.std.specs.Char.{digit_value}
use Rattle.std.specs.Str.Parse.{digits_value, digits_value_after}
use Rattle.std.proofs.lemmas.Bool.{false≢true, eqb-true, eqb-false, eq-eqb, leb-true, le-leb, cond-true, or_cases, or_left, or_right, and_parts, and_from, false_from_ne_true}
use Rattle.std.proofs.lemmas.Bool.Decides.{Decides-eqb}
use Rattle.std.proofs.lemmas.List.Elements.{All-nil, All-cons, All-head, All-tail}
use Rattle.std.proofs.lemmas.List.Splits.{join_with_byte-slice_split}
use Rattle.std.proofs.lemmas.Slice.Eq.{ends_is}
use Rattle.std.proofs.lemmas.Str.{digit_value_digit}
use Rattle.np_code_points.specs.Lines.{HasNo}
use Rattle.np_code_points.specs.inside.LineCuts.{is_byte, before_byte}
use Rattle.np_code_points.proofs.LineGrammar.{not_byte, joined_none, before_at, after_at, after_none}
use Rattle.np_code_points.proofs.LineLemmas.{rest_parts, split_cut}
use Rattle.np_ucd.specs.Fields.{AreFields, Fields, HasFields, IsLetter, IsCategory, IsDigit, IsClassOf, IsFirstName, IsLastName}
use Rattle.np_ucd.specs.inside.FieldReading.{fields_of, is_letter, category_value, is_digit, number_of, is_class, class_value, opens_range, closes_range}
use Rattle.np_ucd.specs.inside.RecordReading.{field}

-- The fields.
abbrev parts : List ℕ → List (List ℕ)
parts text = slice_split (λ b. eqb b 59) text

parts_none : (xs : List ℕ) → HasNo 59 xs → parts xs ≡ xs ∷ []
parts_none xs h =
    let none = after_none 59 xs h in
    split_cut (is_byte 59) xs ∙ ap (λ o. before_byte 59 xs ∷ rest_parts (is_byte 59) o) none ∙ ap (λ front. front ∷ []) (sym (joined_none 59 xs none))

parts_some : (xs rest : List ℕ) → HasNo 59 xs → parts (xs ++ 59 ∷ rest) ≡ xs ∷ parts rest
parts_some xs rest h =
    split_cut (is_byte 59) (xs ++ 59 ∷ rest)
    ∙ ap (λ o. before_byte 59 (xs ++ 59 ∷ rest) ∷ rest_parts (is_byte 59) o) (after_at 59 xs rest h)
    ∙ ap (λ front. front ∷ parts rest) (before_at 59 xs rest h)

parts_only : (fields : List (List ℕ)) → (fields ≢ []) → All (HasNo 59) fields → fields ≡ parts (join_with_byte 59 fields)
parts_only [] ne h = absurd (ne refl)
parts_only (x ∷ []) ne h = sym (parts_none x (All-head (HasNo 59) x [] h))
parts_only (x ∷ y ∷ ys) ne h =
    ap (λ ps. x ∷ ps) (parts_only (y ∷ ys) (λ e. absurd (cc)) (All-tail (HasNo 59) x (y ∷ ys) h))
    ∙ sym (parts_some x (join_with_byte 59 (y ∷ ys)) (All-head (HasNo 59) x (y ∷ ys) h))

onto_free : (x : ℕ) (ps : List (List ℕ)) → (x ≢ 59) → All (HasNo 59) ps → All (HasNo 59) (onto_first x ps)
onto_free x [] ne h = All-cons (HasNo 59) (x ∷ []) [] (All-cons (not_byte 59) x [] ne (All-nil (not_byte 59))) (All-nil (HasNo 59))
onto_free x (p ∷ ps) ne h =
    All-cons (HasNo 59) (x ∷ p) ps (All-cons (not_byte 59) x p ne (All-head (HasNo 59) p ps h)) (All-tail (HasNo 59) p ps h)

parts_step : (t : Bool) (x : ℕ) (ps : List (List ℕ)) → eqb x 59 ≡ t → All (HasNo 59) ps → All (HasNo 59) (cond t ([] ∷ ps) (onto_first x ps))
parts_step true x ps e h = All-cons (HasNo 59) [] ps (All-nil (not_byte 59)) h
parts_step false x ps e h = onto_free x ps (eqb-false x 59 e) h

parts_free : (xs : List ℕ) → All (HasNo 59) (parts xs)
parts_free [] = All-cons (HasNo 59) [] [] (All-nil (not_byte 59)) (All-nil (HasNo 59))
parts_free (x ∷ xs) = parts_step (eqb x 59) x (parts xs) refl (parts_free xs)

parts_filled : (xs : List ℕ) → parts xs ≢ []
parts_filled xs e = let both = sym (split_cut (is_byte 59) xs) ∙ e in absurd (cc)

pub are_fields : (text : List ℕ) → AreFields text (fields_of text)
unfolding fields_of
are_fields text = record { some = parts_filled text; free = parts_free text; joined = sym (join_with_byte-slice_split 59 text) }

pub only_fields : (text : List ℕ) (fields : List (List ℕ)) → AreFields text fields → fields ≡ fields_of text
unfolding fields_of
only_fields text fields h = parts_only fields h.some h.free ∙ ap parts (sym h.joined)

-- The fields that are read.
abbrev Six : List (List ℕ) → Type 0
Six ps =
    (more : List (List ℕ))
    × (ps ≡ get_or ps 0 [] ∷ get_or ps 1 [] ∷ get_or ps 2 [] ∷ get_or ps 3 [] ∷ get_or ps 4 [] ∷ get_or ps 5 [] ∷ more)
    × (length more ≡ 9)

six : (ps : List (List ℕ)) → length ps ≡ 15 → Six ps
six [] h = absurd (omega arith)
six (a ∷ []) h = absurd (omega arith)
six (a ∷ b ∷ []) h = absurd (omega arith)
six (a ∷ b ∷ c ∷ []) h = absurd (omega arith)
six (a ∷ b ∷ c ∷ d ∷ []) h = absurd (omega arith)
six (a ∷ b ∷ c ∷ d ∷ e ∷ []) h = absurd (omega arith)
six (a ∷ b ∷ c ∷ d ∷ e ∷ f ∷ more) h = (more, refl, omega arith)

abbrev pub read_from : List (List ℕ) → Fields
read_from ps = record { code = get_or ps 0 []; name = get_or ps 1 []; category = get_or ps 2 []; class = get_or ps 3 []; mapping = get_or ps 5 [] }

abbrev pub fields_in : List ℕ → Fields
fields_in text = record { code = field 0 text; name = field 1 text; category = field 2 text; class = field 3 text; mapping = field 5 text }

pub has_fields : (text : List ℕ) → length (fields_of text) ≡ 15 → HasFields text (fields_in text)
unfolding field
has_fields text h =
    let ps = six (fields_of text) h in
    record { bidi = field 4 text; more = ps.0; are = subst (AreFields text) ps.1 (are_fields text); count = ps.2 }

pub only_has : (text : List ℕ) (f : Fields) → HasFields text f → f ≡ fields_in text
unfolding field
only_has text f h =
    ap read_from (only_fields text (f.code ∷ f.name ∷ f.category ∷ f.class ∷ h.bidi ∷ f.mapping ∷ h.more) h.are)

pub fifteen_are : (text : List ℕ) (f : Fields) → HasFields text f → length (fields_of text) ≡ 15
fifteen_are text f h =
    let same = only_fields text (f.code ∷ f.name ∷ f.category ∷ f.class ∷ h.bidi ∷ f.mapping ∷ h.more) h.are in
    omega (arith, ap length same, h.count)

-- General_Category.
in_span : (low high b : ℕ) → (leb low b && leb b high) ≡ true → (low ≤ b) × (b ≤ high)
in_span low high b h = let both = and_parts (leb low b) (leb b high) h in (leb-true low b both.0, leb-true b high both.1)

span_in : (low high b : ℕ) → (low ≤ b) × (b ≤ high) → (leb low b && leb b high) ≡ true
span_in low high b h = and_from (leb low b) (leb b high) (le-leb low b h.0) (le-leb b high h.1)

true_letter : (b : ℕ) → is_letter b ≡ true → IsLetter b
true_letter b h =
    ⊎_elim (λ e. inl (in_span 65 90 b e)) (λ e. inr (in_span 97 122 b e)) (or_cases (leb 65 b && leb b 90) (leb 97 b && leb b 122) h)

letter_true : (b : ℕ) → IsLetter b → is_letter b ≡ true
letter_true b h =
    ⊎_elim (λ e. or_left (leb 65 b && leb b 90) (leb 97 b && leb b 122) (span_in 65 90 b e))
    (λ e. or_right (leb 65 b && leb b 90) (leb 97 b && leb b 122) (span_in 97 122 b e)) h

abbrev is_cn : ℕ → ℕ → Bool
is_cn a b = eqb a 67 && eqb b 110

cn_not : (a b : ℕ) → not (is_cn a b) ≡ true → a ∷ b ∷ [] ≢ codes "Cn"
cn_not a b h e =
    let first : a ≡ 67 = cc in
    let second : b ≡ 110 = cc in
    false≢true (ap not (sym (and_from (eqb a 67) (eqb b 110) (eq-eqb a 67 first) (eq-eqb b 110 second))) ∙ h)

not_cn : (a b : ℕ) → (a ∷ b ∷ [] ≢ codes "Cn") → not (is_cn a b) ≡ true
not_cn a b h =
    ap not (false_from_ne_true (is_cn a b) (λ e.
    let both = and_parts (eqb a 67) (eqb b 110) e in
    let first = eqb-true a 67 both.0 in
    let second = eqb-true b 110 both.1 in
    h (ap (λ x. x ∷ b ∷ []) first ∙ ap (λ x. 67 ∷ x ∷ []) second)))

category_step : (t : Bool) (a b : ℕ) (letters : List ℕ) → (is_letter a && is_letter b && not (is_cn a b)) ≡ t → cond t (Some (a ∷ b ∷ [])) None ≡ Some letters → IsCategory (a ∷ b ∷ []) × (letters ≡ a ∷ b ∷ [])
category_step true a b letters e h =
    let outer = and_parts (is_letter a && is_letter b) (not (is_cn a b)) e in
    let inner = and_parts (is_letter a) (is_letter b) outer.0 in
    let same : letters ≡ a ∷ b ∷ [] = cc in (
      record {
        first = a;
        second = b;
        are = refl;
        first_letter = true_letter a inner.0;
        second_letter = true_letter b inner.1;
        assigned = cn_not a b outer.1;
      },
      same,
    )
category_step false a b letters e h = absurd (cc)

pub category_said : (text letters : List ℕ) → category_value text ≡ Some letters → IsCategory text × (letters ≡ text)
unfolding category_value
category_said [] letters h = absurd (cc)
category_said (a ∷ []) letters h = absurd (cc)
category_said (a ∷ b ∷ []) letters h = category_step (is_letter a && is_letter b && not (is_cn a b)) a b letters refl h
category_said (a ∷ b ∷ c ∷ cs) letters h = absurd (cc)

category_two : (a b : ℕ) → IsLetter a → IsLetter b → (a ∷ b ∷ [] ≢ codes "Cn") → category_value (a ∷ b ∷ []) ≡ Some (a ∷ b ∷ [])
unfolding category_value
category_two a b first second assigned =
    cond-true (is_letter a && is_letter b && not (is_cn a b)) (Some (a ∷ b ∷ [])) None
    (and_from (is_letter a && is_letter b) (not (is_cn a b)) (and_from (is_letter a) (is_letter b) (letter_true a first) (letter_true b second)) (not_cn a b assigned))

pub category_read : (text : List ℕ) → IsCategory text → category_value text ≡ Some text
category_read text h =
    ap category_value h.are
    ∙ category_two h.first h.second h.first_letter h.second_letter (λ e. h.assigned (h.are ∙ e))
    ∙ ap Some (sym h.are)

-- Canonical_Combining_Class.
true_digits : (ds : List ℕ) → list_all is_digit ds ≡ true → All IsDigit ds
true_digits [] h = All-nil IsDigit
true_digits (d ∷ ds) h =
    let both = and_parts (is_digit d) (list_all is_digit ds) h in
    All-cons IsDigit d ds (in_span 48 57 d both.0) (true_digits ds both.1)

digits_true : (ds : List ℕ) → All IsDigit ds → list_all is_digit ds ≡ true
digits_true [] h = refl
digits_true (d ∷ ds) h =
    and_from (is_digit d) (list_all is_digit ds) (span_in 48 57 d (All-head IsDigit d ds h)) (digits_true ds (All-tail IsDigit d ds h))

one_more : (n d : ℕ) → IsDigit d → 10 * n + (d - 48) ≡ n * 10 + digit_value d
one_more n d h = let v = digit_value_digit d h in omega (arith, h.0)

number_from : (n : ℕ) (ds : List ℕ) → All IsDigit ds → fold (λ n b. 10 * n + (b - 48)) n ds ≡ digits_value_after 10 n ds
number_from n [] h = refl
number_from n (d ∷ ds) h =
    number_from (10 * n + (d - 48)) ds (All-tail IsDigit d ds h)
    ∙ ap (λ k. digits_value_after 10 k ds) (one_more n d (All-head IsDigit d ds h))

number_is : (ds : List ℕ) → All IsDigit ds → number_of ds ≡ digits_value 10 ds
number_is ds h = number_from 0 ds h

class_step : (t : Bool) (ds : List ℕ) (class : ℕ) → is_class ds ≡ t → cond t (Some (number_of ds)) None ≡ Some class → IsClassOf ds class
class_step true ds class e h =
    let most = and_parts (leb 1 (length ds) && leb (length ds) 3 && list_all is_digit ds) (leb (number_of ds) 254) e in
    let more = and_parts (leb 1 (length ds) && leb (length ds) 3) (list_all is_digit ds) most.0 in
    let both = and_parts (leb 1 (length ds)) (leb (length ds) 3) more.0 in
    let digits = true_digits ds more.1 in
    let same : class ≡ number_of ds = cc in
    record {
      some = leb-true 1 (length ds) both.0;
      few = leb-true (length ds) 3 both.1;
      digits = digits;
      value = same ∙ number_is ds digits;
      bound = subst (λ n. n ≤ 254) (sym same) (leb-true (number_of ds) 254 most.1);
    }
class_step false ds class e h = absurd (cc)

pub class_said : (text : List ℕ) (class : ℕ) → class_value text ≡ Some class → IsClassOf text class
unfolding class_value
class_said text class h = class_step (is_class text) text class refl h

pub class_read : (text : List ℕ) (class : ℕ) → IsClassOf text class → class_value text ≡ Some class
unfolding class_value
class_read text class h =
    let same : number_of text ≡ class = number_is text h.digits ∙ sym h.value in
    cond-true (is_class text) (Some (number_of text)) None
    (and_from (leb 1 (length text) && leb (length text) 3 && list_all is_digit text) (leb (number_of text) 254)
    (and_from (leb 1 (length text) && leb (length text) 3) (list_all is_digit text)
    (and_from (leb 1 (length text)) (leb (length text) 3) (le-leb 1 (length text) h.some) (le-leb (length text) 3 h.few))
    (digits_true text h.digits))
    (le-leb (number_of text) 254 (subst (λ n. n ≤ 254) (sym same) h.bound)))
    ∙ ap Some same

-- The names of a range's two records.
ends_so : (name needle : List ℕ) → (ends_with nat_eq name needle ≡ true) ↔ ((front : List ℕ) × (name ≡ front ++ needle))
ends_so name needle =
    let both = ends_is Decides-eqb name needle (ends_with nat_eq name needle) refl in
    (λ h. (take (length name - length needle) name, both.0 h), λ h. both.1 h.0 h.1)

pub opens_is : (name : List ℕ) → (opens_range name ≡ true) ↔ IsFirstName name
unfolding opens_range
opens_is name = ends_so name (codes ", First>")

pub closes_is : (name : List ℕ) → (closes_range name ≡ true) ↔ IsLastName name
unfolding closes_range
closes_is name = ends_so name (codes ", Last>")
