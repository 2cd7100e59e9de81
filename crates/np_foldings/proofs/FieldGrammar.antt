-- The fields of a record, and what they say, are those of the grammar, and no other.
use Rattle.std.proofs.Common.{◌≡◌, ℕ, ◌≤◌, Bool, true, false, not, cond, eqb, List, [], ◌∷◌, length, Option, Some, None, Bor, option_map, refl, sym, ap, subst, ◌∙◌, arith}
use Rattle.std.specs.Option.{option_and_then}
use Rattle.std.proofs.lemmas.Bool.{false≢true, eqb-true, eq-eqb, leb-true, le-leb, cond-true, cond-false}
use Rattle.np_code_points.specs.Codes.{IsScalarOf}
use Rattle.np_code_points.specs.declared.words.Dividers.TheVariants.{Spaces}
use Rattle.np_code_points.specs.inside.LineCuts.{after_byte, before_byte, is_byte, is_empty}
use Rattle.np_code_points.specs.inside.WordCuts.{words_of}
use Rattle.np_code_points.specs.inside.WordValues.{scalar_value, scalars_of, if_short}
use Rattle.np_code_points.proofs.LineGrammar.{joined_none}
use Rattle.np_code_points.proofs.LineLemmas.{split_cut, rest_parts}
use Rattle.np_code_points.proofs.ValueGrammar.{scalar_from, from_scalar, zip_from, from_zip, short_from, from_short}
use Rattle.np_code_points.proofs.WordGrammar.{are_words, only_words}
use Rattle.np_ucd.specs.Exclusions.{SaysText}
use Rattle.np_ucd.specs.Fields.{AreFields}
use Rattle.np_ucd.specs.Mappings.{AreCodes}
use Rattle.np_ucd.specs.inside.ExclusionReading.{entry_text}
use Rattle.np_ucd.specs.inside.FieldReading.{fields_of, short_scalars}
use Rattle.np_ucd.proofs.FieldGrammar.{are_fields, only_fields}
use Rattle.np_ucd.proofs.TextGrammar.{says_text, only_says}
use Rattle.np_foldings.specs.Fields.{Fields, HasFields, IsMapping}
use Rattle.np_foldings.specs.Statuses.{Status, Common, Full, Simple, Turkic, letter_of, IsStatusOf}
use Rattle.np_foldings.specs.inside.FieldReading.{ends_empty, four, fields_value, status_at, status_value, counted, if_counted, mapping_value}

pub one_field : (xs : List ℕ) (behind : Option (Bor (List ℕ))) → option_map (λ (r : Bor (List ℕ)). r.now) behind ≡ after_byte 59 xs → behind ≡ None → fields_of xs ≡ xs ∷ []
unfolding fields_of
one_field xs behind after is =
    let none : after_byte 59 xs ≡ None = sym after ∙ ap (option_map (λ (r : Bor (List ℕ)). r.now)) is in
    split_cut (is_byte 59) xs ∙ ap (λ o. before_byte 59 xs ∷ rest_parts (is_byte 59) o) none ∙ ap (λ front. front ∷ []) (sym (joined_none 59 xs none))

pub more_fields : (xs : List ℕ) → fields_of xs ≡ before_byte 59 xs ∷ rest_parts (is_byte 59) (after_byte 59 xs)
unfolding fields_of
more_fields xs = split_cut (is_byte 59) xs

-- a field, and others behind it, don't end with an empty one
pub ends_more : (last field rest : List ℕ) → fields_of last ≡ field ∷ fields_of rest → ends_empty (fields_of last) ≡ false
ends_more last field rest h = ap ends_empty (h ∙ ap (λ fs. field ∷ fs) (more_fields rest))

pub ends_here : (last : List ℕ) → fields_of last ≡ last ∷ [] → ends_empty (fields_of last) ≡ is_empty (entry_text last)
ends_here last h = ap ends_empty h

-- so many fields
pub fields_at : (text : List ℕ) (ps : List (List ℕ)) → fields_of text ≡ ps → fields_value text ≡ four ps
unfolding fields_value
fields_at text ps h = ap four h

abbrev pub read_as : List ℕ → List ℕ → List ℕ → Fields
read_as a b c = record { code = a; status = b; mapping = c }

abbrev pub kept : List ℕ → List ℕ → List ℕ → Fields
kept a b c = read_as (entry_text a) (entry_text b) (entry_text c)

pub fields_fine : (text a b c last : List ℕ) → fields_of text ≡ a ∷ b ∷ c ∷ fields_of last → ends_empty (fields_of last) ≡ true → fields_value text ≡ Some (kept a b c)
fields_fine text a b c last h e = fields_at text (a ∷ b ∷ c ∷ fields_of last) h ∙ cond-true (ends_empty (fields_of last)) (Some (kept a b c)) None e

pub fields_other : (text a b c last : List ℕ) → fields_of text ≡ a ∷ b ∷ c ∷ fields_of last → ends_empty (fields_of last) ≡ false → fields_value text ≡ None
fields_other text a b c last h e = fields_at text (a ∷ b ∷ c ∷ fields_of last) h ∙ cond-false (ends_empty (fields_of last)) (Some (kept a b c)) None e

pub not_true : (b : Bool) → not b ≡ true → b ≡ false
not_true true h = absurd (false≢true h)
not_true false h = refl

pub said_as : (x y z a b c : List ℕ) → x ≡ entry_text a → y ≡ entry_text b → z ≡ entry_text c → Some (read_as x y z) ≡ Some (kept a b c)
said_as x y z a b c ex ey ez =
    ap (λ t. Some (read_as t y z)) ex ∙ ap (λ t. Some (read_as (entry_text a) t z)) ey ∙ ap (λ t. Some (read_as (entry_text a) (entry_text b) t)) ez

-- From what is read to the grammar.
nothing : (xs : List ℕ) → is_empty xs ≡ true → xs ≡ []
nothing [] h = refl
nothing (x ∷ xs) h = absurd (false≢true h)

last_step : (text a b c d : List ℕ) (f : Fields) (t : Bool) → is_empty (entry_text d) ≡ t → AreFields text (a ∷ b ∷ c ∷ d ∷ []) → cond t (Some (kept a b c)) None ≡ Some f → HasFields text f
last_step text a b c d f true e are h =
    let same : kept a b c ≡ f = cc in
    subst (HasFields text) same (record {
      first = a;
      second = b;
      third = c;
      fourth = d;
      are = are;
      code = says_text a;
      status = says_text b;
      mapping = says_text c;
      empty = subst (SaysText d) (nothing (entry_text d) e) (says_text d);
    })
last_step text a b c d f false e are h = absurd (cc)

fields_step : (text : List ℕ) (ps : List (List ℕ)) (f : Fields) → AreFields text ps → four ps ≡ Some f → HasFields text f
fields_step text [] f are h = absurd (cc)
fields_step text (a ∷ []) f are h = absurd (cc)
fields_step text (a ∷ b ∷ []) f are h = absurd (cc)
fields_step text (a ∷ b ∷ c ∷ []) f are h = absurd (cc)
fields_step text (a ∷ b ∷ c ∷ d ∷ []) f are h = last_step text a b c d f (is_empty (entry_text d)) refl are h
fields_step text (a ∷ b ∷ c ∷ d ∷ e ∷ fs) f are h = absurd (cc)

pub fields_said : (text : List ℕ) (f : Fields) → fields_value text ≡ Some f → HasFields text f
unfolding fields_value
fields_said text f h = fields_step text (fields_of text) f (are_fields text) h

-- From the grammar to what is read.
pub fields_read : (text : List ℕ) (f : Fields) → HasFields text f → fields_value text ≡ Some f
fields_read text f h =
    let empty : is_empty (entry_text h.fourth) ≡ true = ap is_empty (sym (only_says h.fourth [] h.empty)) in
    fields_at text (h.first ∷ h.second ∷ h.third ∷ h.fourth ∷ []) (sym (only_fields text (h.first ∷ h.second ∷ h.third ∷ h.fourth ∷ []) h.are))
    ∙ cond-true (is_empty (entry_text h.fourth)) (Some (kept h.first h.second h.third)) None empty
    ∙ sym (said_as f.code f.status f.mapping h.first h.second h.third (only_says h.first f.code h.code) (only_says h.second f.status h.status) (only_says h.third f.mapping h.mapping))

pub same_fields : (text : List ℕ) (f g : Fields) → fields_value text ≡ Some f → HasFields text g → g ≡ f
same_fields text f g h k = let both : Some f ≡ Some g = sym h ∙ fields_read text g k in cc

-- The status.
letter_said : (b : ℕ) (status : Status) (c f s t : Bool) → eqb b 67 ≡ c → eqb b 70 ≡ f → eqb b 83 ≡ s → eqb b 84 ≡ t
    → cond c (Some Common) (cond f (Some Full) (cond s (Some Simple) (cond t (Some Turkic) None))) ≡ Some status → b ≡ letter_of status
letter_said b status true f s t ec ef es et h = let same : Common ≡ status = cc in eqb-true b 67 ec ∙ ap letter_of same
letter_said b status false true s t ec ef es et h = let same : Full ≡ status = cc in eqb-true b 70 ef ∙ ap letter_of same
letter_said b status false false true t ec ef es et h = let same : Simple ≡ status = cc in eqb-true b 83 es ∙ ap letter_of same
letter_said b status false false false true ec ef es et h = let same : Turkic ≡ status = cc in eqb-true b 84 et ∙ ap letter_of same
letter_said b status false false false false ec ef es et h = absurd (cc)

status_step : (field : List ℕ) (status : Status) → status_at field ≡ Some status → IsStatusOf field status
status_step [] status h = absurd (cc)
status_step (b ∷ []) status h = ap (λ x. x ∷ []) (letter_said b status (eqb b 67) (eqb b 70) (eqb b 83) (eqb b 84) refl refl refl refl h)
status_step (b ∷ c ∷ cs) status h = absurd (cc)

pub status_said : (field : List ℕ) (status : Status) → status_value field ≡ Some status → IsStatusOf field status
unfolding status_value
status_said field status h = status_step field status h

letter_read : (status : Status) → status_at (letter_of status ∷ []) ≡ Some status
letter_read Common = refl
letter_read Full = refl
letter_read Simple = refl
letter_read Turkic = refl

pub status_read : (field : List ℕ) (status : Status) → IsStatusOf field status → status_value field ≡ Some status
unfolding status_value
status_read field status h = ap status_at h ∙ letter_read status

-- The mapping.
codes_from : (most : ℕ) (text codes : List ℕ) → short_scalars most text ≡ Some codes → AreCodes most text codes
unfolding short_scalars
codes_from most text codes h =
    let is = short_from most (scalars_of (words_of Spaces text)) codes h in
    record {
      words = words_of Spaces text;
      are = are_words Spaces text;
      say = zip_from scalar_value IsScalarOf scalar_from (words_of Spaces text) codes is.0;
      some = is.1;
      few = is.2;
    }

from_codes : (most : ℕ) (text codes : List ℕ) → AreCodes most text codes → short_scalars most text ≡ Some codes
unfolding short_scalars
from_codes most text codes h =
    ap (λ ws. option_and_then (if_short most) (scalars_of ws)) (sym (only_words Spaces text h.words h.are))
    ∙ ap (option_and_then (if_short most)) (from_zip scalar_value IsScalarOf from_scalar h.words codes h.say)
    ∙ from_short most codes h.some h.few

if_step : (t : Bool) (xs codes : List ℕ) → cond t (Some xs) None ≡ Some codes → (t ≡ true) × (xs ≡ codes)
if_step true xs codes h = (refl, cc)
if_step false xs codes h = absurd (cc)

counted_step : (status : Status) (o : Option (List ℕ)) (codes : List ℕ) → option_and_then (if_counted status) o ≡ Some codes → (o ≡ Some codes) × (counted status (length codes) ≡ true)
counted_step status None codes h = absurd (cc)
counted_step status (Some xs) codes h =
    let is = if_step (counted status (length xs)) xs codes h in
    (ap Some is.1, ap (λ ys. counted status (length ys)) (sym is.1) ∙ is.0)

fewer : (m n : ℕ) (text codes : List ℕ) → AreCodes m text codes → length codes ≤ n → AreCodes n text codes
fewer m n text codes h l = record { words = h.words; are = h.are; say = h.say; some = h.some; few = l }

one_from : (text codes : List ℕ) → short_scalars 32 text ≡ Some codes → eqb (length codes) 1 ≡ true → AreCodes 1 text codes
one_from text codes h e = let one = eqb-true (length codes) 1 e in fewer 32 1 text codes (codes_from 32 text codes h) (omega arith)

mapping_step : (status : Status) (text codes : List ℕ) → short_scalars 32 text ≡ Some codes → counted status (length codes) ≡ true → IsMapping status text codes
mapping_step Common text codes h e = one_from text codes h e
mapping_step Full text codes h e = (codes_from 32 text codes h, leb-true 2 (length codes) e)
mapping_step Simple text codes h e = one_from text codes h e
mapping_step Turkic text codes h e = one_from text codes h e

pub mapping_said : (status : Status) (text codes : List ℕ) → mapping_value status text ≡ Some codes → IsMapping status text codes
unfolding mapping_value
mapping_said status text codes h =
    let is = counted_step status (short_scalars 32 text) codes h in mapping_step status text codes is.0 is.1

one_read : (text codes : List ℕ) → AreCodes 1 text codes → (short_scalars 32 text ≡ Some codes) × (eqb (length codes) 1 ≡ true)
one_read text codes h =
    let some = h.some in
    let few = h.few in
    let one : length codes ≡ 1 = omega arith in
    (from_codes 32 text codes (fewer 1 32 text codes h (omega arith)), eq-eqb (length codes) 1 one)

mapping_back : (status : Status) (text codes : List ℕ) → IsMapping status text codes → (short_scalars 32 text ≡ Some codes) × (counted status (length codes) ≡ true)
mapping_back Common text codes h = one_read text codes h
mapping_back Full text codes h = (from_codes 32 text codes h.0, le-leb 2 (length codes) h.1)
mapping_back Simple text codes h = one_read text codes h
mapping_back Turkic text codes h = one_read text codes h

pub mapping_read : (status : Status) (text codes : List ℕ) → IsMapping status text codes → mapping_value status text ≡ Some codes
unfolding mapping_value
mapping_read status text codes h =
    let is = mapping_back status text codes h in
    ap (option_and_then (if_counted status)) is.0 ∙ cond-true (counted status (length codes)) (Some codes) None is.1

-- what is read of a text that was counted, and of one that was not
pub mapping_counted : (status : Status) (text codes : List ℕ) → short_scalars 32 text ≡ Some codes → counted status (length codes) ≡ true → mapping_value status text ≡ Some codes
unfolding mapping_value
mapping_counted status text codes h e = ap (option_and_then (if_counted status)) h ∙ cond-true (counted status (length codes)) (Some codes) None e

pub mapping_other : (status : Status) (text codes : List ℕ) → short_scalars 32 text ≡ Some codes → counted status (length codes) ≡ false → mapping_value status text ≡ None
unfolding mapping_value
mapping_other status text codes h e = ap (option_and_then (if_counted status)) h ∙ cond-false (counted status (length codes)) (Some codes) None e

pub mapping_none : (status : Status) (text : List ℕ) → short_scalars 32 text ≡ None → mapping_value status text ≡ None
unfolding mapping_value
mapping_none status text h = ap (option_and_then (if_counted status)) h
