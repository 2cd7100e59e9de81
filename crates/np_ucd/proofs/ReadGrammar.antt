-- What is read of a record that passes the tests of single fields.
use Rattle.std.proofs.Common.{◌≡◌, ◌≢◌, ℕ, Bool, true, false, not, List, [], ◌∷◌, Option, Some, None, is_none, unwrap_or, refl, sym, ap, ◌∙◌}
use Rattle.std.proofs.lemmas.Bool.{false≢true, eqb-true, not-false}
use Rattle.np_code_points.specs.Codes.{code_value}
use Rattle.np_code_points.specs.inside.LineCuts.{is_empty}
use Rattle.np_ucd.specs.Fields.{HasFields, IsCodeOf, IsCategory, IsClassOf}
use Rattle.np_ucd.specs.Mappings.{Mapping, IsMapping}
use Rattle.np_ucd.specs.Tests.{Maps}
use Rattle.np_ucd.specs.inside.FieldReading.{category_value, class_value, mapping_value}
use Rattle.np_ucd.specs.inside.RecordReading.{field, code_in, category_in, class_in, mapping_in, maps, has_other_count, has_bad_code, has_bad_category, has_bad_class, has_unread_mapping}
use Rattle.np_ucd.proofs.FieldGrammar.{fields_in, has_fields, category_said, class_said}
use Rattle.np_ucd.proofs.MappingGrammar.{mapping_said, mapping_read}

-- Options that say something, or nothing.
pub said : {X : Type 0} (o : Option X) (d : X) → is_none o ≡ false → o ≡ Some (unwrap_or o d)
said None d h = absurd (cc)
said (Some x) d h = refl

pub unsaid : {X : Type 0} (o : Option X) (x : X) → is_none o ≡ true → o ≡ Some x → ⊥
unsaid None x h e = absurd (cc)
unsaid (Some y) x h e = absurd (false≢true h)

pub same_code : (text : List ℕ) (a b : ℕ) → IsCodeOf text a → IsCodeOf text b → a ≡ b
same_code text a b h k = let both : Some a ≡ Some b = sym h ∙ k in cc

-- What is read of a record that passes the tests of single fields.
pub count_is : (text : List ℕ) → has_other_count text ≡ false → HasFields text (fields_in text)
unfolding has_other_count
count_is text h = has_fields text (eqb-true _ 15 (not-false _ h))

pub code_is : (text : List ℕ) → has_bad_code text ≡ false → IsCodeOf (field 0 text) (code_in text)
unfolding has_bad_code code_in
code_is text h = said (code_value (field 0 text)) 0 h

pub category_is : (text : List ℕ) → has_bad_category text ≡ false → category_value (field 2 text) ≡ Some (category_in text)
unfolding has_bad_category category_in
category_is text h = said (category_value (field 2 text)) [] h

pub class_is : (text : List ℕ) → has_bad_class text ≡ false → IsClassOf (field 3 text) (class_in text)
unfolding has_bad_class class_in
class_is text h = class_said (field 3 text) _ (said (class_value (field 3 text)) 0 h)

mapping_is : (text : List ℕ) → has_unread_mapping text ≡ false → IsMapping (field 5 text) (mapping_in text)
unfolding has_unread_mapping mapping_in
mapping_is text h = mapping_said (field 5 text) _ (said (mapping_value (field 5 text)) _ h)

pub record Read (text : List ℕ) : Type 0 where
  pub has : HasFields text (fields_in text)
  pub code : IsCodeOf (field 0 text) (code_in text)
  pub category : IsCategory (field 2 text)
  pub category_same : category_in text ≡ field 2 text
  pub class : IsClassOf (field 3 text) (class_in text)
  pub mapping : IsMapping (field 5 text) (mapping_in text)

pub read : (text : List ℕ) → has_other_count text ≡ false → has_bad_code text ≡ false → has_bad_category text ≡ false → has_bad_class text ≡ false → has_unread_mapping text ≡ false → Read text
read text count code category class mapping =
    let cat = category_said (field 2 text) (category_in text) (category_is text category) in
    record {
      has = count_is text count;
      code = code_is text code;
      category = cat.0;
      category_same = cat.1;
      class = class_is text class;
      mapping = mapping_is text mapping;
    }

-- Lists that are empty, or not.
filled : (codes : List ℕ) → not (is_empty codes) ≡ true → codes ≢ []
filled [] h e = absurd (false≢true h)
filled (c ∷ codes) h e = absurd (cc)

not_empty : (codes : List ℕ) → (codes ≢ []) → not (is_empty codes) ≡ true
not_empty [] h = absurd (h refl)
not_empty (c ∷ codes) h = refl

pub not_true : (b : Bool) → not b ≡ true → b ≡ false
not_true true h = absurd (false≢true h)
not_true false h = refl

pub maps_said : (text : List ℕ) → Read text → maps text ≡ true → Maps (fields_in text)
maps_said text r h = (mapping_in text, r.mapping, filled (mapping_in text).codes h)

same_mapping : (text : List ℕ) (a b : Mapping) → IsMapping text a → IsMapping text b → a ≡ b
same_mapping text a b h k = let both : Some a ≡ Some b = sym (mapping_read text a h) ∙ mapping_read text b k in cc

pub maps_read : (text : List ℕ) → Read text → Maps (fields_in text) → maps text ≡ true
maps_read text r h =
    let same : h.0 ≡ mapping_in text = same_mapping (field 5 text) h.0 (mapping_in text) h.1 r.mapping in
    not_empty (mapping_in text).codes (λ e. h.2 (ap (λ (m : Mapping). m.codes) same ∙ e))
