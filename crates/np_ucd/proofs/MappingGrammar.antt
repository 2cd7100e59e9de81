-- What is read of a mapping's field is what the grammar says.
use Rattle.std.proofs.Common.{◌≡◌, ◌≢◌, ℕ, ◌≤◌, Bool, true, false, cond, eqb, List, [], ◌∷◌, ◌++◌, length, Option, Some, None, option_map, refl, sym, ap, ◌∙◌, inl, inr, ⊎_elim, arith}
use Rattle.std.specs.List.{AllZip, list_all}
use Rattle.std.specs.Option.{option_and_then}
use Rattle.std.proofs.lemmas.Bool.{false≢true, eqb-true, ne_eqb, cond-false, and_parts}
use Rattle.np_code_points.specs.Codes.{IsScalarOf, is_hex_digit, is_code, code_value}
use Rattle.np_code_points.specs.Words.{AreDividers, AreWords}
use Rattle.np_code_points.specs.declared.words.Dividers.TheVariants.{Spaces}
use Rattle.np_code_points.specs.inside.LineCuts.{before_byte, after_byte}
use Rattle.np_code_points.specs.inside.WordCuts.{divides, after_all, words_of}
use Rattle.np_code_points.proofs.LineGrammar.{before_free, joined_some, after_at}
use Rattle.np_code_points.proofs.WordGrammar.{divided, after_all_in_front, only_dividers, dividers_only, word_first, are_words, only_words}
use Rattle.np_code_points.proofs.ValueGrammar.{scalar_from, from_scalar, zip_from, from_zip, short_from, from_short}
use Rattle.np_code_points.proofs.WordLemmas.{words_after_all, words_none}
use Rattle.np_ucd.specs.Entries.{MapKind, Plain, Canonical, Compatibility}
use Rattle.np_ucd.specs.Mappings.{Mapping, AreCodes, IsTagged, IsMapping}
use Rattle.np_code_points.specs.inside.WordValues.{scalar_value, values_of, scalars_of, if_short}
use Rattle.np_ucd.specs.inside.FieldReading.{short_scalars, listed_mapping, mapping_at, mapping_value}
use Rattle.np_ucd.proofs.SpanGrammar.{taken}

-- So many of them.
codes_from : (most : ℕ) (text codes : List ℕ) → short_scalars most text ≡ Some codes → AreCodes most text codes
unfolding short_scalars
codes_from most text codes h =
    let is = short_from most (scalars_of (words_of Spaces text)) codes h in
    record {
      words = words_of Spaces text;
      are = are_words Spaces text;
      say = zip_from scalar_value IsScalarOf scalar_from (words_of Spaces text) codes is.0;
      some = is.1;
      few = is.2;
    }

from_codes : (most : ℕ) (text codes : List ℕ) → AreCodes most text codes → short_scalars most text ≡ Some codes
unfolding short_scalars
from_codes most text codes h =
    ap (λ ws. option_and_then (if_short most) (scalars_of ws)) (sym (only_words Spaces text h.words h.are))
    ∙ ap (option_and_then (if_short most)) (from_zip scalar_value IsScalarOf from_scalar h.words codes h.say)
    ∙ from_short most codes h.some h.few

abbrev to_mapping : MapKind → List ℕ → Mapping
to_mapping kind codes = record { kind = kind; codes = codes }

listed_step : (kind : MapKind) (o : Option (List ℕ)) (to : Mapping) → option_map (to_mapping kind) o ≡ Some to → (o ≡ Some to.codes) × (to.kind ≡ kind)
listed_step kind None to h = absurd (cc)
listed_step kind (Some codes) to h =
    let same : to_mapping kind codes ≡ to = cc in
    (ap (λ (m : Mapping). Some m.codes) same, sym (ap (λ (m : Mapping). m.kind) same))

listed_from : (kind : MapKind) (most : ℕ) (text : List ℕ) (to : Mapping) → listed_mapping kind most text ≡ Some to → AreCodes most text to.codes × (to.kind ≡ kind)
listed_from kind most text to h =
    let is = listed_step kind (short_scalars most text) to h in
    (codes_from most text to.codes is.0, is.1)

from_listed : (kind : MapKind) (most : ℕ) (text : List ℕ) (to : Mapping) → AreCodes most text to.codes → to.kind ≡ kind → listed_mapping kind most text ≡ Some to
from_listed kind most text to h same =
    ap (option_map (to_mapping kind)) (from_codes most text to.codes h) ∙ ap (λ k. Some (to_mapping k to.codes)) (sym same)

-- spaces in front count for nothing
short_same : (most : ℕ) (text : List ℕ) → short_scalars most (after_all (divides Spaces) text) ≡ short_scalars most text
unfolding short_scalars
short_same most text = ap (λ ws. option_and_then (if_short most) (scalars_of ws)) (words_after_all (divides Spaces) text)

listed_same : (kind : MapKind) (most : ℕ) (text : List ℕ) → listed_mapping kind most (after_all (divides Spaces) text) ≡ listed_mapping kind most text
listed_same kind most text = ap (option_map (to_mapping kind)) (short_same most text)

-- From what is read to the grammar.
tagged_step : (field : List ℕ) (b : ℕ) (bs : List ℕ) (o : Option (List ℕ)) (to : Mapping) → after_all (divides Spaces) field ≡ b ∷ bs → b ≡ 60 → after_byte 62 bs ≡ o → option_and_then (listed_mapping Compatibility 32) o ≡ Some to → IsMapping field to
tagged_step field b bs None to e is after h = absurd (cc)
tagged_step field b bs (Some rest) to e is after h =
    let s = divided Spaces field in
    let said = listed_from Compatibility 32 rest to h in
    inr (inr (
      record {
        spaces = s.front;
        tag = before_byte 62 bs;
        rest = rest;
        stands = s.stands ∙ ap (λ r. s.front ++ r) (e ∙ ap (λ x. x ∷ bs) is ∙ ap (λ r. 60 ∷ r) (joined_some 62 bs rest after));
        blank = s.all;
        closed = before_free 62 bs;
        are = said.0;
      },
      said.1,
    ))

mapping_test : (t : Bool) (field : List ℕ) (b : ℕ) (bs : List ℕ) (to : Mapping) → eqb b 60 ≡ t → after_all (divides Spaces) field ≡ b ∷ bs → cond t (option_and_then (listed_mapping Compatibility 32) (after_byte 62 bs)) (listed_mapping Canonical 2 (b ∷ bs)) ≡ Some to → IsMapping field to
mapping_test true field b bs to t e h = tagged_step field b bs (after_byte 62 bs) to e (eqb-true b 60 t) refl h
mapping_test false field b bs to t e h =
    inr (inl (listed_from Canonical 2 field to (sym (listed_same Canonical 2 field) ∙ ap (listed_mapping Canonical 2) e ∙ h)))

mapping_step : (field s : List ℕ) (to : Mapping) → after_all (divides Spaces) field ≡ s → mapping_at s ≡ Some to → IsMapping field to
mapping_step field [] to e h = let same : to ≡ to_mapping Plain [] = cc in inl (dividers_only Spaces field e, same)
mapping_step field (b ∷ bs) to e h = mapping_test (eqb b 60) field b bs to refl e h

pub mapping_said : (field : List ℕ) (to : Mapping) → mapping_value field ≡ Some to → IsMapping field to
unfolding mapping_value
mapping_said field to h = mapping_step field (after_all (divides Spaces) field) to refl h

-- From the grammar to what is read.
plain_read : (field : List ℕ) (to : Mapping) → AreDividers Spaces field → to ≡ to_mapping Plain [] → mapping_value field ≡ Some to
unfolding mapping_value
plain_read field to h same = ap mapping_at (only_dividers Spaces field h) ∙ ap Some (sym same)

hex_head : (x : ℕ) (xs : List ℕ) (c : ℕ) → code_value (x ∷ xs) ≡ Some c → is_hex_digit x ≡ true
unfolding code_value
hex_head x xs c h =
    let digits = (and_parts _ _ (and_parts _ _ (taken (is_code (x ∷ xs)) _ c h)).1).0 in
    (and_parts (is_hex_digit x) (list_all is_hex_digit xs) digits).0

no_tag : (word rest : List ℕ) (b : ℕ) (bs : List ℕ) (c : ℕ) → (word ≢ []) → code_value word ≡ Some c → b ∷ bs ≡ word ++ rest → eqb b 60 ≡ false
no_tag [] rest b bs c ne h e = absurd (ne refl)
no_tag (x ∷ xs) rest b bs c ne h e =
    let head : b ≡ x = cc in
    ne_eqb b 60 (λ tag. false≢true (ap is_hex_digit (sym tag ∙ head) ∙ hex_head x xs c h))

first_no_tag : (field : List ℕ) (b : ℕ) (bs : List ℕ) (words : List (List ℕ)) (codes : List ℕ) → after_all (divides Spaces) field ≡ b ∷ bs → AreWords Spaces field words → AllZip IsScalarOf words codes → 1 ≤ length codes → eqb b 60 ≡ false
first_no_tag field b bs [] [] e are say some = absurd (omega arith)
first_no_tag field b bs [] (c ∷ codes) e are say some = absurd say
first_no_tag field b bs (word ∷ words) [] e are say some = absurd say
first_no_tag field b bs (word ∷ words) (c ∷ codes) e are say some =
    let at = ap (after_all (divides Spaces)) are.2 ∙ after_all_in_front Spaces are.0 (word ++ are.1) are.3 ∙ word_first Spaces word are.1 are.4 are.5 in
    no_tag word are.1 b bs c are.4 say.0.0 (sym e ∙ at)

not_empty : (field codes : List ℕ) → after_all (divides Spaces) field ≡ [] → short_scalars 2 field ≡ Some codes → ⊥
unfolding short_scalars values_of
not_empty field codes e h =
    let none : option_and_then (if_short 2) (scalars_of (words_of Spaces field)) ≡ None =
    ap (λ ws. option_and_then (if_short 2) (scalars_of ws)) (words_none (divides Spaces) field [] (sym e) refl) in
    absurd (cc)

canonical_step : (field s : List ℕ) (to : Mapping) → after_all (divides Spaces) field ≡ s → AreCodes 2 field to.codes → to.kind ≡ Canonical → mapping_at s ≡ Some to
canonical_step field [] to e h same = absurd (not_empty field to.codes e (from_codes 2 field to.codes h))
canonical_step field (b ∷ bs) to e h same =
    cond-false (eqb b 60) (option_and_then (listed_mapping Compatibility 32) (after_byte 62 bs)) (listed_mapping Canonical 2 (b ∷ bs))
    (first_no_tag field b bs h.words to.codes e h.are h.say h.some)
    ∙ ap (listed_mapping Canonical 2) (sym e)
    ∙ listed_same Canonical 2 field
    ∙ from_listed Canonical 2 field to h same

canonical_read : (field : List ℕ) (to : Mapping) → AreCodes 2 field to.codes → to.kind ≡ Canonical → mapping_value field ≡ Some to
unfolding mapping_value
canonical_read field to h same = canonical_step field (after_all (divides Spaces) field) to refl h same

tagged_read : (field : List ℕ) (to : Mapping) → IsTagged field to.codes → to.kind ≡ Compatibility → mapping_value field ≡ Some to
unfolding mapping_value
tagged_read field to h same =
    ap (λ f. mapping_at (after_all (divides Spaces) f)) h.stands
    ∙ ap mapping_at (after_all_in_front Spaces h.spaces (60 ∷ (h.tag ++ 62 ∷ h.rest)) h.blank)
    ∙ ap (option_and_then (listed_mapping Compatibility 32)) (after_at 62 h.tag h.rest h.closed)
    ∙ from_listed Compatibility 32 h.rest to h.are same

pub mapping_read : (field : List ℕ) (to : Mapping) → IsMapping field to → mapping_value field ≡ Some to
mapping_read field to h =
    ⊎_elim (λ plain. plain_read field to plain.0 plain.1)
    (λ some. ⊎_elim (λ canonical. canonical_read field to canonical.0 canonical.1) (λ tagged. tagged_read field to tagged.0 tagged.1) some) h
