-- What a file's reader answers, from what is answered on its bytes.
use Rattle.std.proofs.Common.{◌≡◌, ℕ, ◌↔◌, Bool, true, false, List, Option, Some, None, Result, Ok, Err, IfOk, IfErr, OnOk, is_some, IfSome, sym, ap, subst, ◌∙◌, arith, ⊎_elim}
use Rattle.np_code_points.specs.Inputs.{IsReadWhole}
use Rattle.np_ucd.specs.AllRows.{AreAllRows}
use Rattle.np_ucd.specs.Entries.{Entry}
use Rattle.np_ucd.specs.Exclusions.{AreReadable, IsListedIn}
use Rattle.np_ucd.specs.Faults.{line_of}
use Rattle.np_ucd.specs.FirstFaults.{HasNoFault}
use Rattle.np_ucd.specs.Listed.{Span, is_listed}
use Rattle.np_ucd.specs.Reading.{IsRefused}
use Rattle.np_ucd.specs.Tests.{UcdFault, FieldCount, BadCode, OutOfOrder, BadCategory, BadClass, BadMapping, RangeOpen, RangeLone, RangeDiffers, RangeMaps, TooLarge, ReadFailed, Memory}
use Rattle.np_ucd.specs.inside.ExclusionReading.{exclusions_fault, spans_in}
use Rattle.np_ucd.specs.inside.FileReading.{first_fault, rows_in}
use Rattle.np_ucd.specs.inside.RecordValues.{IsMemoryOr}
use Rattle.np_ucd.proofs.ExclusionGrammar.{are_readable, lists_codes}
use Rattle.np_ucd.proofs.FaultGrammar.{faultless}
use Rattle.np_ucd.proofs.RowGrammar.{are_all_rows}

-- the bytes that were read are those that are judged
pub handed_on : {before after : Option (List ℕ)} {items bytes : List ℕ} → bytes ≡ items → IsReadWhole before after items → IsReadWhole before after bytes
handed_on same whole = rw same whole

-- what is told of a file that was read, where it has no fault
pub same_read : {T : Type 0} {before after : Option (List ℕ)} {bytes : List ℕ} (fault : List ℕ → Option UcdFault)
    → (P : List ℕ → T → Type 0) → IsReadWhole before after bytes → (r : Result T UcdFault) → OnOk r (fault bytes ≡ None) → IfOk r (P bytes)
    → IfOk r (λ v. (bytes : List ℕ) × IsReadWhole before after bytes × (fault bytes ≡ None) × P bytes v)
same_read {bytes = bytes} fault P whole (Ok v) fine is = (bytes, whole, fine, is)
same_read fault P whole (Err e) fine is = tt

-- the rows of a file that was read
pub rows_read : {before after : Option (List ℕ)} {bytes : List ℕ} → IsReadWhole before after bytes → (r : Result (List Entry) UcdFault) → OnOk r (first_fault bytes ≡ None) → IfOk r (λ rows. rows ≡ rows_in bytes) → IfOk r (λ rows. (bytes : List ℕ) × IsReadWhole before after bytes × HasNoFault bytes × AreAllRows bytes rows)
rows_read {bytes = bytes} whole (Ok rows) fine is =
    (bytes, whole, faultless bytes fine, rw is (are_all_rows bytes fine))
rows_read whole (Err e) fine is = tt

listed_step : (bytes : List ℕ) (spans : List Span) (code : ℕ) → is_listed spans code ≡ is_listed (spans_in bytes) code → (is_listed spans code ≡ true) ↔ IsListedIn bytes code
listed_step bytes spans code same = rw same (lists_codes bytes code)

-- the code points that a file lists that was read
pub listed_read : {before after : Option (List ℕ)} {bytes : List ℕ} → IsReadWhole before after bytes → (r : Result (List Span) UcdFault) → OnOk r (exclusions_fault bytes ≡ None) → IfOk r (λ e. (code : ℕ) → is_listed e code ≡ is_listed (spans_in bytes) code) → IfOk r (λ e. (bytes : List ℕ) × IsReadWhole before after bytes × AreReadable bytes × ((code : ℕ) → (is_listed e code ≡ true) ↔ IsListedIn bytes code))
listed_read {bytes = bytes} whole (Ok spans) fine same =
    (bytes, whole, are_readable bytes fine, λ code. listed_step bytes spans code (same code))
listed_read whole (Err e) fine same = tt

-- a fault that has a line is one of the file's bytes
named : (IsFault : List ℕ → UcdFault → Type 0) (before after : Option (List ℕ)) (bytes : List ℕ) → IsReadWhole before after bytes → (e : UcdFault) → is_some (line_of e) ≡ true → IsFault bytes e → IsRefused IsFault before after e
named IsFault before after bytes whole (FieldCount n) lined is = (bytes, whole, is)
named IsFault before after bytes whole (BadCode n) lined is = (bytes, whole, is)
named IsFault before after bytes whole (OutOfOrder n) lined is = (bytes, whole, is)
named IsFault before after bytes whole (BadCategory n) lined is = (bytes, whole, is)
named IsFault before after bytes whole (BadClass n) lined is = (bytes, whole, is)
named IsFault before after bytes whole (BadMapping n) lined is = (bytes, whole, is)
named IsFault before after bytes whole (RangeOpen n) lined is = (bytes, whole, is)
named IsFault before after bytes whole (RangeLone n) lined is = (bytes, whole, is)
named IsFault before after bytes whole (RangeDiffers n) lined is = (bytes, whole, is)
named IsFault before after bytes whole (RangeMaps n) lined is = (bytes, whole, is)
named IsFault before after bytes whole TooLarge lined is = absurd (cc)
named IsFault before after bytes whole ReadFailed lined is = absurd (cc)
named IsFault before after bytes whole Memory lined is = absurd (cc)

-- why a file was refused, by a function that finds the fault of its bytes, at a line of theirs
module _ (fault_in : List ℕ → Option UcdFault) (lined : (bytes : List ℕ) → IfSome (fault_in bytes) (λ e. is_some (line_of e) ≡ true)) where
  has_line : (bytes : List ℕ) (e : UcdFault) → fault_in bytes ≡ Some e → is_some (line_of e) ≡ true
  has_line bytes e same = rw same at (lined bytes)

  -- by each relation that holds of what the function finds
  pub refused_read : {T : Type 0} {before after : Option (List ℕ)} {bytes : List ℕ} (IsFault : List ℕ → UcdFault → Type 0) → ((bytes : List ℕ) (e : UcdFault) → fault_in bytes ≡ Some e → IsFault bytes e) → IsReadWhole before after bytes → (r : Result T UcdFault) → IfErr r (λ e. IsMemoryOr (fault_in bytes) e) → IfErr r (IsRefused IsFault before after)
  refused_read IsFault is whole (Ok x) h = tt
  refused_read {before = before} {after = after} {bytes = bytes} IsFault is whole (Err e) h =
      ⊎_elim
      (λ (m : e ≡ Memory). subst (λ (f : UcdFault). IsRefused IsFault before after f) (sym m) (bytes, omega (arith, whole.size), whole.taken))
      (λ same. named IsFault before after bytes whole e (has_line bytes e same) (is bytes e same))
      h

  not_failed : (bytes : List ℕ) (e : UcdFault) → IsMemoryOr (fault_in bytes) e → e ≡ ReadFailed → ⊥
  not_failed bytes e h failed =
      ⊎_elim (λ m. absurd (cc))
      (λ same. let bad : false ≡ true = ap (λ x. is_some (line_of x)) (sym failed) ∙ has_line bytes e same in absurd (cc)) h

  -- a device that gave all bytes did not fail, and none of their faults says so
  pub failed_read : {T : Type 0} (bytes : List ℕ) (r : Result T UcdFault) (failed : Bool) → IfErr r (λ e. IsMemoryOr (fault_in bytes) e) → (failed ≡ true → ⊥) → (r ≡ Err ReadFailed) ↔ (failed ≡ true)
  failed_read bytes (Ok x) failed h sound = (λ e. absurd (cc), λ bad. absurd (sound bad))
  failed_read bytes (Err e) failed h sound = (
    λ same. let at : e ≡ ReadFailed = cc in absurd (not_failed bytes e h at),
    λ bad. absurd (sound bad),
  )
