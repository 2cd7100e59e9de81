use Rattle.std.proofs.Common.{IfOk, IfErr, subst}
use Rattle.np_jobs.specs.Streams.{Stream, stream_of}
use Rattle.np_jobs.specs.Versions.{IsFaultOver, WasBuiltOver}
use Rattle.np_jobs.proofs.EndLemmas.{same_stream}
use Rattle.np_jobs.proofs.VersionLemmas.{has_rows, was_built, was_refused}
use Rattle.np_jobs.proofs.versions.read_version.Goals as goal

pub returns-in-Ok-clause-built : goal.returns-in-Ok-clause-built
returns-in-Ok-clause-built g c =
    let tells = g.R.Read.remaining in
    let rows = c.in-Ok.rows in
    let built = c.version_over.result in
    let data_file = stream_of tells c.args.data_file.now c.read_row_list.new.source in
    let same = same_stream tells c.clear.new.self c.args.exclusions_file.now c.version_over.new.exclusions_file c.clear.ensures.device in
    was_built data_file (stream_of tells c.args.exclusions_file.now c.version_over.new.exclusions_file) rows built
    (has_rows data_file rows c.in-Ok.ensures.rows (λ e. let clash = c.in-Ok.ensures.failed.1 e in absurd (cc)))
    (subst (λ (s : Stream). IfOk built (WasBuiltOver rows s)) same c.version_over.ensures.built)

pub returns-in-Ok-clause-refused : goal.returns-in-Ok-clause-refused
returns-in-Ok-clause-refused g c =
    let tells = g.R.Read.remaining in
    let rows = c.in-Ok.rows in
    let built = c.version_over.result in
    let data_file = stream_of tells c.args.data_file.now c.read_row_list.new.source in
    let same = same_stream tells c.clear.new.self c.args.exclusions_file.now c.version_over.new.exclusions_file c.clear.ensures.device in
    was_refused c.args.version data_file (stream_of tells c.args.exclusions_file.now c.version_over.new.exclusions_file) rows built
    (has_rows data_file rows c.in-Ok.ensures.rows (λ e. let clash = c.in-Ok.ensures.failed.1 e in absurd (cc)))
    (subst (λ (s : Stream). IfErr built (IsFaultOver c.args.version rows s)) same c.version_over.ensures.refused)
