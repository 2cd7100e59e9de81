use Rattle.std.proofs.Common.{◌≡◌, ℕ}
use Rattle.np_code_points.specs.Watched.{has_failed}
use Rattle.np_ucd.specs.Exclusions.{IsFirstBadLine}
use Rattle.np_ucd.specs.inside.ExclusionReading.{exclusions_fault, spans_in}
use Rattle.np_ucd.specs.Listed.{is_listed}
use Rattle.np_ucd.specs.inside.RecordValues.{Names}
use Rattle.np_ucd.proofs.ExclusionGrammar.{first_bad_line}
use Rattle.np_ucd.proofs.ExclusionLemmas.{exclusions_line}
use Rattle.np_ucd.proofs.ReaderLemmas.{handed_on, listed_read, refused_read, failed_read, same_read}
use Rattle.np_ucd.proofs.readers.read_exclusions.Goals as goal

pub returns-clause-listed : goal.returns-clause-listed
returns-clause-listed g c =
    listed_read (handed_on c.as_slice.ensures.value c.in_ok-bytes.ensures.read) c.exclusions_of.result c.exclusions_of.ensures.fine c.exclusions_of.ensures.same

-- the clauses below rest on the one above, so that bytes that are not those of the file are told once
pub returns-clause-refused : goal.returns-clause-refused
returns-clause-refused g c =
    let listed = returns-clause-listed g c in
    refused_read exclusions_fault exclusions_line IsFirstBadLine first_bad_line (handed_on c.as_slice.ensures.value c.in_ok-bytes.ensures.read) c.exclusions_of.result c.exclusions_of.ensures.fault

pub returns-clause-failed : goal.returns-clause-failed
returns-clause-failed g c =
    let listed = returns-clause-listed g c in
    failed_read exclusions_fault exclusions_line c.as_slice.result.now c.exclusions_of.result (has_failed c.read_file.new.source) c.exclusions_of.ensures.fault
    (λ e. let clash = c.in_ok-bytes.ensures.failed.1 e in absurd (cc))

pub returns-clause-same_fault : goal.returns-clause-same_fault
returns-clause-same_fault g c =
    let listed = returns-clause-listed g c in
    refused_read exclusions_fault exclusions_line (Names exclusions_fault) (λ bytes e is. is) (handed_on c.as_slice.ensures.value c.in_ok-bytes.ensures.read) c.exclusions_of.result c.exclusions_of.ensures.fault

pub returns-clause-same_listed : goal.returns-clause-same_listed
returns-clause-same_listed g c =
    let listed = returns-clause-listed g c in
    same_read exclusions_fault (λ bytes e. (code : ℕ) → is_listed e code ≡ is_listed (spans_in bytes) code)
    (handed_on c.as_slice.ensures.value c.in_ok-bytes.ensures.read) c.exclusions_of.result c.exclusions_of.ensures.fine c.exclusions_of.ensures.same
