use Rattle.np_code_points.specs.Watched.{has_failed}
use Rattle.np_ucd.proofs.ReaderLemmas.{handed_on}
use Rattle.np_foldings.proofs.ReaderLemmas.{verdict_read, refused_read, failed_read}
use Rattle.np_foldings.proofs.readers.read_foldings.Goals as goal

pub returns-clause-foldings : goal.returns-clause-foldings
returns-clause-foldings g c = verdict_read (handed_on c.as_slice.ensures.value c.in_ok-bytes.ensures.read) c.foldings_of.result c.foldings_of.ensures.ok

-- the clauses below rest on the one above, so that bytes that are not those of the file are told once
pub returns-clause-refused : goal.returns-clause-refused
returns-clause-refused g c =
    let foldings = returns-clause-foldings g c in
    refused_read (handed_on c.as_slice.ensures.value c.in_ok-bytes.ensures.read) c.foldings_of.result c.foldings_of.ensures.fault

pub returns-clause-failed : goal.returns-clause-failed
returns-clause-failed g c =
    let foldings = returns-clause-foldings g c in
    failed_read c.as_slice.result.now c.foldings_of.result (has_failed c.read_file.new.source) c.foldings_of.ensures.fault
    (λ e. let clash = c.in_ok-bytes.ensures.failed.1 e in absurd (cc))
