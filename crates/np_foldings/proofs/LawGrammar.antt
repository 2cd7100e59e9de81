-- What the grammar's relations determine.
use Rattle.std.proofs.Common.{◌≡◌, ℕ, List, Result, Ok, subst}
use Rattle.np_foldings.specs.Faults.{FoldingFault}
use Rattle.np_foldings.specs.Foldings.{Folding, AreFoldings}
use Rattle.np_foldings.specs.Laws.{HasOneListOfRecords, HasOneVerdict}
use Rattle.np_foldings.specs.Verdicts.{IsSaidBy, IsVerdict}
use Rattle.np_foldings.specs.inside.FileReading.{records_in, verdict_in}
use Rattle.np_foldings.proofs.FaultGrammar.{is_said, only_said, sorted}
use Rattle.np_foldings.proofs.RecordGrammar.{are_records, only_records}

pub one_list_of_records : HasOneListOfRecords
one_list_of_records bytes = (records_in bytes, are_records bytes, only_records bytes)

pub is_verdict : (bytes : List ℕ) → IsVerdict bytes (verdict_in bytes)
unfolding verdict_in
is_verdict bytes = record { records = records_in bytes; are = are_records bytes; said = is_said (records_in bytes) (are_records bytes).rise }

only_verdict : (bytes : List ℕ) (v : Result (List Folding) FoldingFault) → IsVerdict bytes v → v ≡ verdict_in bytes
unfolding verdict_in
only_verdict bytes v h =
    only_said (records_in bytes) (are_records bytes).rise v (subst (λ rs. IsSaidBy rs v) (only_records bytes h.records h.are) h.said)

pub one_verdict : HasOneVerdict
one_verdict bytes = (verdict_in bytes, is_verdict bytes, only_verdict bytes)

pub are_foldings : (bytes : List ℕ) (foldings : List Folding) → verdict_in bytes ≡ Ok foldings → AreFoldings foldings
unfolding verdict_in
are_foldings bytes foldings h = sorted (records_in bytes) (are_records bytes).rise foldings h
