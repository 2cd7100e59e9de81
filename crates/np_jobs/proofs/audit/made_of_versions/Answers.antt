use Rattle.std.proofs.Common.{IfOk, IfErr, inl, refl}
use Rattle.np_jobs.specs.Chains.{VersionReaders}
use Rattle.np_jobs.specs.Streams.{stream_of}
use Rattle.np_jobs.specs.inside.AuditSteps.{LacksAgainst, MakesAgainst}
use Rattle.np_jobs.proofs.AuditLemmas.{lacks_old, made_against, refused_against}
use Rattle.np_jobs.proofs.EndLemmas.{on_same, untouched}
use Rattle.np_jobs.proofs.audit.made_of_versions.Goals as goal

pub returns-in-Ok : goal.returns-in-Ok
returns-in-Ok g c =
    let files = g.F.Read.remaining in
    let old_files : VersionReaders = record { data_file = stream_of files c.args.old_data_file.now c.read_version.new.data_file; exclusions_file = stream_of files c.args.old_exclusions_file.now c.read_version.new.exclusions_file } in
    let new_files : VersionReaders = record { data_file = stream_of files c.args.new_data_file.now c.made_against.new.new_data_file; exclusions_file = stream_of files c.args.new_exclusions_file.now c.made_against.new.new_exclusions_file } in
    let cleared = on_same files c.clear.new.self c.args.new_data_file.now c.made_against.new.new_data_file c.clear-2.new.self c.args.new_exclusions_file.now c.made_against.new.new_exclusions_file c.clear.ensures.device
    c.clear-2.ensures.device in
    record {
      made = made_against old_files new_files c.in-Ok.old c.made_against.result c.in-Ok.ensures.built (cleared (λ d e. IfOk c.made_against.result (MakesAgainst c.in-Ok.old d e)) c.made_against.ensures.made);
      refused = refused_against old_files new_files c.in-Ok.old c.made_against.result c.in-Ok.ensures.built (cleared (λ d e. IfErr c.made_against.result (LacksAgainst d e)) c.made_against.ensures.refused);
    }

pub returns-in-Err-clause-refused : goal.returns-in-Err-clause-refused
returns-in-Err-clause-refused g c =
    let files = g.F.Read.remaining in
    let old_files : VersionReaders = record { data_file = stream_of files c.args.old_data_file.now c.read_version.new.data_file; exclusions_file = stream_of files c.args.old_exclusions_file.now c.read_version.new.exclusions_file } in
    let new_files : VersionReaders = record { data_file = stream_of files c.args.new_data_file.now c.clear.new.self; exclusions_file = stream_of files c.args.new_exclusions_file.now c.clear-2.new.self } in
    let data_file = untouched files c.args.new_data_file.now c.clear.new.self c.clear.ensures.device c.clear.ensures.clear in
    let exclusions_file = untouched files c.args.new_exclusions_file.now c.clear-2.new.self c.clear-2.ensures.device c.clear-2.ensures.clear in
    let fault = c.in-Err.fault in
    inl (fault, refl, lacks_old old_files new_files fault c.in-Err.ensures.refused data_file exclusions_file)
