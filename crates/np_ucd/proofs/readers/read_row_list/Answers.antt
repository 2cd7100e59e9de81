use Rattle.std.proofs.Common.{◌≡◌}
use Rattle.np_code_points.specs.Watched.{has_failed}
use Rattle.np_ucd.specs.FirstFaults.{IsFirstFault}
use Rattle.np_ucd.specs.inside.FileReading.{first_fault, rows_in}
use Rattle.np_ucd.specs.inside.RecordValues.{Names}
use Rattle.np_ucd.proofs.FaultGrammar.{first_fault_is}
use Rattle.np_ucd.proofs.RowLemmas.{first_line}
use Rattle.np_ucd.proofs.ReaderLemmas.{handed_on, rows_read, refused_read, failed_read, same_read}
use Rattle.np_ucd.proofs.readers.read_row_list.Goals as goal

pub returns-clause-rows : goal.returns-clause-rows
returns-clause-rows g c =
    rows_read (handed_on c.as_slice.ensures.value c.in_ok-bytes.ensures.read) c.row_list_of.result c.row_list_of.ensures.fine c.row_list_of.ensures.rows

-- the clauses below rest on the one above, so that bytes that are not those of the file are told once
pub returns-clause-refused : goal.returns-clause-refused
returns-clause-refused g c =
    let rows = returns-clause-rows g c in
    refused_read first_fault first_line IsFirstFault first_fault_is (handed_on c.as_slice.ensures.value c.in_ok-bytes.ensures.read) c.row_list_of.result c.row_list_of.ensures.fault

pub returns-clause-failed : goal.returns-clause-failed
returns-clause-failed g c =
    let rows = returns-clause-rows g c in
    failed_read first_fault first_line c.as_slice.result.now c.row_list_of.result (has_failed c.read_file.new.source) c.row_list_of.ensures.fault
    (λ e. let clash = c.in_ok-bytes.ensures.failed.1 e in absurd (cc))

pub returns-clause-same_fault : goal.returns-clause-same_fault
returns-clause-same_fault g c =
    let rows = returns-clause-rows g c in
    refused_read first_fault first_line (Names first_fault) (λ bytes e is. is) (handed_on c.as_slice.ensures.value c.in_ok-bytes.ensures.read) c.row_list_of.result c.row_list_of.ensures.fault

pub returns-clause-same_rows : goal.returns-clause-same_rows
returns-clause-same_rows g c =
    let rows = returns-clause-rows g c in
    same_read first_fault (λ bytes rows. rows ≡ rows_in bytes)
    (handed_on c.as_slice.ensures.value c.in_ok-bytes.ensures.read) c.row_list_of.result c.row_list_of.ensures.fine c.row_list_of.ensures.rows
