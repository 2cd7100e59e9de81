use Rattle.std.proofs.lemmas.Result.{err_from_is_err_and}
use Rattle.np_jobs.specs.Chains.{VersionReaders}
use Rattle.np_jobs.specs.Streams.{stream_of}
use Rattle.np_jobs.specs.Versions.{IsVersionFault, WasBuilt}
use Rattle.np_jobs.proofs.AuditLemmas.{lacks_new, lacks_old}
use Rattle.np_jobs.proofs.EndLemmas.{on_same, untouched}
use Rattle.np_jobs.proofs.key_under.read_both.Goals as goal

pub returns-in_err-old-clause-refused : goal.returns-in_err-old-clause-refused
returns-in_err-old-clause-refused g c =
    let files = g.F.Read.remaining in
    let old_files : VersionReaders = record { data_file = stream_of files c.args.old_data_file.now c.read_version.new.data_file; exclusions_file = stream_of files c.args.old_exclusions_file.now c.read_version.new.exclusions_file } in
    let new_files : VersionReaders = record { data_file = stream_of files c.args.data_file.now c.clear.new.self; exclusions_file = stream_of files c.args.exclusions_file.now c.clear-2.new.self } in
    let data_file = untouched files c.args.data_file.now c.clear.new.self c.clear.ensures.device c.clear.ensures.clear in
    let exclusions_file = untouched files c.args.exclusions_file.now c.clear-2.new.self c.clear-2.ensures.device c.clear-2.ensures.clear in
    let p = err_from_is_err_and c.from_residual.result c.from_residual.ensures.1 in
    rw (p.1, p.2) (lacks_old old_files new_files c.in_err-old.field-0.0 c.in_err-old.ensures.refused data_file exclusions_file)

pub returns-in_err-table-clause-refused : goal.returns-in_err-table-clause-refused
returns-in_err-table-clause-refused g c =
    let files = g.F.Read.remaining in
    let old_files : VersionReaders = record { data_file = stream_of files c.args.old_data_file.now c.read_version.new.data_file; exclusions_file = stream_of files c.args.old_exclusions_file.now c.read_version.new.exclusions_file } in
    let new_files : VersionReaders = record { data_file = stream_of files c.args.data_file.now c.read_table_of.new.data_file; exclusions_file = stream_of files c.args.exclusions_file.now c.read_table_of.new.exclusions_file } in
    let fault = c.in_err-table.field-0.0 in
    let refused = on_same files c.clear.new.self c.args.data_file.now c.read_table_of.new.data_file c.clear-2.new.self c.args.exclusions_file.now c.read_table_of.new.exclusions_file c.clear.ensures.device
    c.clear-2.ensures.device (λ d e. IsVersionFault 1 d e fault) c.in_err-table.ensures.refused in
    let p = err_from_is_err_and c.from_residual-in_err-table.result c.from_residual-in_err-table.ensures.1 in
    rw (p.1, p.2) (lacks_new old_files new_files c.in_ok-old.old fault c.in_ok-old.ensures.built refused)

pub returns-clause-built : goal.returns-clause-built
returns-clause-built g c =
    let table = g.T.NormTable.model c.in_ok-table.table in
    let built = on_same g.F.Read.remaining c.clear.new.self c.args.data_file.now c.read_table_of.new.data_file c.clear-2.new.self c.args.exclusions_file.now c.read_table_of.new.exclusions_file c.clear.ensures.device
    c.clear-2.ensures.device (λ d e. WasBuilt d e table) c.in_ok-table.ensures.built in
    (c.in_ok-old.ensures.built, (built, tt))
