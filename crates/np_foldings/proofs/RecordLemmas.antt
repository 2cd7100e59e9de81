-- From what was read of a record to the test that fits it first.
use Rattle.std.proofs.Common.{◌≡◌, ℕ, true, false, List, Option, Some, None, Err, ap, ◌∙◌}
use Rattle.std.proofs.lemmas.Bool.{cond-true, cond-false}
use Rattle.np_code_points.specs.Codes.{code_value}
use Rattle.np_foldings.specs.Faults.{FieldCount, BadCode, BadStatus, OutOfOrder, StatusConflict}
use Rattle.np_foldings.specs.Fields.{Fields, Head}
use Rattle.np_foldings.specs.inside.FieldReading.{fields_value, status_value, mapping_value}
use Rattle.np_foldings.specs.inside.HeadReading.{is_out_of_order, conflicts}
use Rattle.np_foldings.specs.inside.RecordReading.{mapped, headed, with_status, with_code, with_fields, judged}

pub judged_count : (b : Option Head) (text : List ℕ) → fields_value text ≡ None → judged b text ≡ Err FieldCount
unfolding judged
judged_count b text h = ap (with_fields b) h

module _ (b : Option Head) (text : List ℕ) (f : Fields) (fields : fields_value text ≡ Some f) where
  pub judged_code : code_value f.code ≡ None → judged b text ≡ Err BadCode
  unfolding judged
  judged_code none = ap (with_fields b) fields ∙ ap (with_code b f) none

  pub judged_status : (code : ℕ) → code_value f.code ≡ Some code → status_value f.status ≡ None → judged b text ≡ Err BadStatus
  unfolding judged
  judged_status code is none = ap (with_fields b) fields ∙ ap (with_code b f) is ∙ ap (with_status b f code) none

  judged_head : (h : Head) → code_value f.code ≡ Some h.code → status_value f.status ≡ Some h.status → judged b text ≡ headed b f.mapping h
  unfolding judged
  judged_head h code status = ap (with_fields b) fields ∙ ap (with_code b f) code ∙ ap (with_status b f h.code) status

  pub judged_order : (h : Head) → code_value f.code ≡ Some h.code → status_value f.status ≡ Some h.status → is_out_of_order b h ≡ true → judged b text ≡ Err OutOfOrder
  judged_order h code status e = judged_head h code status ∙ cond-true (is_out_of_order b h) (Err OutOfOrder) _ e

  pub judged_conflict : (h : Head) → code_value f.code ≡ Some h.code → status_value f.status ≡ Some h.status → is_out_of_order b h ≡ false → conflicts b h ≡ true → judged b text ≡ Err StatusConflict
  judged_conflict h code status order e =
      judged_head h code status ∙ cond-false (is_out_of_order b h) (Err OutOfOrder) _ order ∙ cond-true (conflicts b h) (Err StatusConflict) _ e

  pub judged_on : (h : Head) → code_value f.code ≡ Some h.code → status_value f.status ≡ Some h.status → is_out_of_order b h ≡ false → conflicts b h ≡ false → judged b text ≡ mapped h (mapping_value h.status f.mapping)
  judged_on h code status order e =
      judged_head h code status ∙ cond-false (is_out_of_order b h) (Err OutOfOrder) _ order ∙ cond-false (conflicts b h) (Err StatusConflict) _ e
