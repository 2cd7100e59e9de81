-- The test that names a record's fault is the least that fits it; where none does, none fits.
use Rattle.std.proofs.Common.{◌≡◌, ℕ, zero, suc, ◌+◌, ◌≤◌, Bool, true, false, cond, List, Option, Some, None, Result, Ok, Err, refl, sym, ap, subst, ◌∙◌, inl, inr, ⊎_elim, arith}
use lib.Utf8.{scalar}
use Rattle.std.proofs.lemmas.Bool.{both_ways, cases_lt}
use Rattle.np_code_points.specs.Codes.{code_value}
use Rattle.np_foldings.specs.Faults.{RecordFault, FieldCount, BadCode, BadStatus, OutOfOrder, StatusConflict, BadMapping, number_of}
use Rattle.np_foldings.specs.Fields.{Fields, Head, HasHead}
use Rattle.np_foldings.specs.Statuses.{Status}
use Rattle.np_foldings.specs.Tests.{HasBadCode, HasBadStatus, IsOutOfOrder, Conflicts, HasBadMapping, Fits, IsFaultOf}
use Rattle.np_foldings.specs.inside.FieldReading.{fields_value, status_value, mapping_value}
use Rattle.np_foldings.specs.inside.HeadReading.{is_out_of_order, conflicts}
use Rattle.np_foldings.specs.inside.RecordReading.{Record, mapped, headed, with_status, with_code, with_fields, judged}
use Rattle.np_foldings.proofs.FieldGrammar.{fields_said, fields_read, same_fields, status_said, status_read, mapping_said, mapping_read}
use Rattle.np_foldings.proofs.HeadGrammar.{head_at, same_head, order_said, order_read, conflicts_said, conflicts_read}

-- Faults by their numbers.
abbrev fault_numbered : ℕ → RecordFault
fault_numbered zero = FieldCount
fault_numbered (suc zero) = FieldCount
fault_numbered (suc (suc zero)) = BadCode
fault_numbered (suc (suc (suc zero))) = BadStatus
fault_numbered (suc (suc (suc (suc zero)))) = OutOfOrder
fault_numbered (suc (suc (suc (suc (suc zero))))) = StatusConflict
fault_numbered (suc (suc (suc (suc (suc (suc n)))))) = BadMapping

numbered : (f : RecordFault) → fault_numbered (number_of f) ≡ f
numbered FieldCount = refl
numbered BadCode = refl
numbered BadStatus = refl
numbered OutOfOrder = refl
numbered StatusConflict = refl
numbered BadMapping = refl

pub same_number : (f g : RecordFault) → number_of f ≡ number_of g → f ≡ g
same_number f g h = sym (numbered f) ∙ ap fault_numbered h ∙ numbered g

some_number : (f : RecordFault) → 1 ≤ number_of f
some_number FieldCount = omega arith
some_number BadCode = omega arith
some_number BadStatus = omega arith
some_number OutOfOrder = omega arith
some_number StatusConflict = omega arith
some_number BadMapping = omega arith

last_number : (f : RecordFault) → number_of f ≤ 6
last_number FieldCount = omega arith
last_number BadCode = omega arith
last_number BadStatus = omega arith
last_number OutOfOrder = omega arith
last_number StatusConflict = omega arith
last_number BadMapping = omega arith

-- No test below this number fits.
abbrev Passed : ℕ → Option Head → List ℕ → Type 0
Passed n b text = (other : RecordFault) → Fits other b text → n ≤ number_of other

passed_one : (b : Option Head) (text : List ℕ) → Passed 1 b text
passed_one b text other fits = some_number other

passed_next : (f : RecordFault) (b : Option Head) (text : List ℕ) → Passed (number_of f) b text → (Fits f b text → ⊥) → Passed (number_of f + 1) b text
passed_next f b text h unfit other fits =
    ⊎_elim
    (λ above. omega arith)
    (λ low.
    let l = h other fits in
    let same : other ≡ f = same_number other f (omega arith) in
    absurd (unfit (subst (λ (g : RecordFault). Fits g b text) same fits)))
    (cases_lt (number_of f) (number_of other))

named : (f : RecordFault) (b : Option Head) (text : List ℕ) → Passed (number_of f) b text → Fits f b text → IsFaultOf b text f
named f b text h fits = record { fits = fits; least = h }

-- What was read of a record without a fault.
pub record IsJudged (b : Option Head) (text : List ℕ) (r : Record) : Type 0 where
  pub fields : Fields
  pub fields_are : fields_value text ≡ Some fields
  pub code : code_value fields.code ≡ Some r.head.code
  pub status : status_value fields.status ≡ Some r.head.status
  pub order : is_out_of_order b r.head ≡ false
  pub goes : conflicts b r.head ≡ false
  pub mapping : mapping_value r.head.status fields.mapping ≡ Some r.mapping
  pub scalar_code : scalar r.head.code ≡ true
  pub unfit : (other : RecordFault) → Fits other b text → ⊥

abbrev IsOutcome : Option Head → List ℕ → Result Record RecordFault → Type 0
IsOutcome b text (Ok r) = IsJudged b text r
IsOutcome b text (Err fault) = IsFaultOf b text fault

-- The code point and the status that are read are those that the fields say.
pub has_head : (text : List ℕ) (f : Fields) (h : Head) → fields_value text ≡ Some f → code_value f.code ≡ Some h.code → status_value f.status ≡ Some h.status → HasHead text f h
has_head text f h ef ec es = record { has = fields_said text f ef; code = ec; status = status_said f.status h.status es }

pub only_head : (text : List ℕ) (f g : Fields) (h k : Head) → fields_value text ≡ Some f → code_value f.code ≡ Some h.code → status_value f.status ≡ Some h.status → HasHead text g k → (g ≡ f) × (k ≡ h)
only_head text f g h k ef ec es has =
    let same = same_fields text f g ef has.has in
    let code : Some k.code ≡ Some h.code = sym has.code ∙ ap (λ (x : Fields). code_value x.code) same ∙ ec in
    let status : Some k.status ≡ Some h.status = sym (status_read g.status k.status has.status) ∙ ap (λ (x : Fields). status_value x.status) same ∙ es in
    (same, same_head k h.code h.status (cc) (cc))

-- From test to test.
module _ (b : Option Head) (text : List ℕ) (f : Fields) (ef : fields_value text ≡ Some f) where
  module _ (h : Head) (ec : code_value f.code ≡ Some h.code) (es : status_value f.status ≡ Some h.status) where
    unordered : is_out_of_order b h ≡ false → Fits OutOfOrder b text → ⊥
    unordered e fits =
        let same = only_head text f fits.0 h fits.1 ef ec es fits.2 in
        both_ways (is_out_of_order b h) e (order_read b h (subst (λ (k : Head). IsOutOfOrder b k) same.1 fits.3))

    unconflicted : conflicts b h ≡ false → Fits StatusConflict b text → ⊥
    unconflicted e fits =
        let same = only_head text f fits.0 h fits.1 ef ec es fits.2 in
        both_ways (conflicts b h) e (conflicts_read b h (subst (λ (k : Head). Conflicts b k) same.1 fits.3))

    unmapped : (codes : List ℕ) → mapping_value h.status f.mapping ≡ Some codes → scalar h.code ≡ true → Fits BadMapping b text → ⊥
    unmapped codes em e fits =
        let same = only_head text f fits.0 h fits.1 ef ec es fits.2 in
        let bad = subst (λ (k : Head). HasBadMapping f k) same.1 (subst (λ (g : Fields). HasBadMapping g fits.1) same.0 fits.3) in
        ⊎_elim (λ none. none codes (mapping_said h.status f.mapping codes em)) (λ other. both_ways (scalar h.code) other e) bad

    mapped_step : (codes : List ℕ) (t : Bool) → mapping_value h.status f.mapping ≡ Some codes → scalar h.code ≡ t → is_out_of_order b h ≡ false → conflicts b h ≡ false → Passed 6 b text → IsOutcome b text (cond t (Ok (record { head = h; mapping = codes })) (Err BadMapping))
    mapped_step codes true em e eo eg past = record {
      fields = f;
      fields_are = ef;
      code = ec;
      status = es;
      order = eo;
      goes = eg;
      mapping = em;
      scalar_code = e;
      unfit = λ other fits. let l = passed_next BadMapping b text past (unmapped codes em e) other fits in let m = last_number other in absurd (omega arith);
    }
    mapped_step codes false em e eo eg past =
        named BadMapping b text past (f, h, has_head text f h ef ec es, inr e)

    mapping_step : (o : Option (List ℕ)) → mapping_value h.status f.mapping ≡ o → is_out_of_order b h ≡ false → conflicts b h ≡ false → Passed 6 b text → IsOutcome b text (mapped h o)
    mapping_step None em eo eg past =
        named BadMapping b text past (f, h, has_head text f h ef ec es, inl (λ codes is. let both = sym em ∙ mapping_read h.status f.mapping codes is in absurd (cc)))
    mapping_step (Some codes) em eo eg past = mapped_step codes (scalar h.code) em refl eo eg past

    conflict_step : (t : Bool) → conflicts b h ≡ t → is_out_of_order b h ≡ false → Passed 5 b text → IsOutcome b text (cond t (Err StatusConflict) (mapped h (mapping_value h.status f.mapping)))
    conflict_step true e eo past = named StatusConflict b text past (f, h, has_head text f h ef ec es, conflicts_said b h e)
    conflict_step false e eo past =
        mapping_step (mapping_value h.status f.mapping) refl eo e (passed_next StatusConflict b text past (unconflicted e))

    order_step : (t : Bool) → is_out_of_order b h ≡ t → Passed 4 b text → IsOutcome b text (cond t (Err OutOfOrder) (cond (conflicts b h) (Err StatusConflict) (mapped h (mapping_value h.status f.mapping))))
    order_step true e past = named OutOfOrder b text past (f, h, has_head text f h ef ec es, order_said b h e)
    order_step false e past = conflict_step (conflicts b h) refl e (passed_next OutOfOrder b text past (unordered e))

  head_step : (h : Head) → code_value f.code ≡ Some h.code → status_value f.status ≡ Some h.status → Passed 4 b text → IsOutcome b text (headed b f.mapping h)
  head_step h ec es past = order_step h ec es (is_out_of_order b h) refl past

  code_unfit : (code : ℕ) → code_value f.code ≡ Some code → Fits BadCode b text → ⊥
  code_unfit code ec fits = subst HasBadCode (same_fields text f fits.0 ef fits.1) fits.2 code ec

  status_unfit : (status : Status) → status_value f.status ≡ Some status → Fits BadStatus b text → ⊥
  status_unfit status es fits = subst HasBadStatus (same_fields text f fits.0 ef fits.1) fits.2 status (status_said f.status status es)

  status_step : (code : ℕ) (o : Option Status) → code_value f.code ≡ Some code → status_value f.status ≡ o → Passed 3 b text → IsOutcome b text (with_status b f code o)
  status_step code None ec es past =
      named BadStatus b text past (f, fields_said text f ef, λ status is. let both = sym es ∙ status_read f.status status is in absurd (cc))
  status_step code (Some status) ec es past =
      head_step (head_at code status) ec es (passed_next BadStatus b text past (status_unfit status es))

  code_step : (o : Option ℕ) → code_value f.code ≡ o → Passed 2 b text → IsOutcome b text (with_code b f o)
  code_step None ec past = named BadCode b text past (f, fields_said text f ef, λ code is. let both = sym ec ∙ is in absurd (cc))
  code_step (Some code) ec past = status_step code (status_value f.status) ec refl (passed_next BadCode b text past (code_unfit code ec))

fields_step : (b : Option Head) (text : List ℕ) (o : Option Fields) → fields_value text ≡ o → IsOutcome b text (with_fields b o)
fields_step b text None ef =
    named FieldCount b text (passed_one b text) (λ f has. let both = sym ef ∙ fields_read text f has in absurd (cc))
fields_step b text (Some f) ef =
    code_step b text f ef (code_value f.code) refl (passed_next FieldCount b text (passed_one b text) (λ none. none f (fields_said text f ef)))

outcome : (b : Option Head) (text : List ℕ) → IsOutcome b text (judged b text)
unfolding judged
outcome b text = fields_step b text (fields_value text) refl

pub judged_fine : (b : Option Head) (text : List ℕ) (r : Record) → judged b text ≡ Ok r → IsJudged b text r
judged_fine b text r h = subst (IsOutcome b text) h (outcome b text)

pub judged_faulty : (b : Option Head) (text : List ℕ) (fault : RecordFault) → judged b text ≡ Err fault → IsFaultOf b text fault
judged_faulty b text fault h = subst (IsOutcome b text) h (outcome b text)
