use Rattle.std.proofs.Common.{Result, Err, subst}
use Rattle.std.proofs.lemmas.Result.{err_from_is_err_and}
use Rattle.np_jobs.specs.Streams.{Stream, stream_of}
use Rattle.np_jobs.specs.Versions.{IsFaultOver}
use Rattle.np_jobs.specs.declared.faults.VersionFault.{VersionFault}
use Rattle.np_jobs.proofs.EndLemmas.{same_stream}
use Rattle.np_jobs.proofs.VersionLemmas.{was_refused}
use Rattle.np_versions.specs.Versions.{VersionData}
use Rattle.np_caseless_job.proofs.versions.read_version_and_bytes.Goals as goal

pub returns-in_err-table-in-Ok-clause-refused : goal.returns-in_err-table-in-Ok-clause-refused
returns-in_err-table-in-Ok-clause-refused g c =
    let tells = g.R.Read.remaining in
    let fault = c.in_err-table-in-Ok.field-0.0 in
    let data_file = stream_of tells c.args.data_file.now c.read_data.new.data_file in
    let exclusions_file = stream_of tells c.args.exclusions_file.now c.table_over.new.exclusions_file in
    let same = same_stream tells c.clear.new.self c.args.exclusions_file.now c.table_over.new.exclusions_file c.clear.ensures.device in
    let over = subst (λ (s : Stream). IsFaultOver c.args.version c.in-Ok.rows s fault) same c.in_err-table-in-Ok.ensures.refused in
    let p = err_from_is_err_and c.from_residual.result c.from_residual.ensures.1 in
    let failed : Result VersionData VersionFault = Err fault in
    rw (p.1, p.2) (was_refused c.args.version data_file exclusions_file c.in-Ok.rows failed c.in-Ok.ensures.rows over)
