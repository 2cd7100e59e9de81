use Rattle.std.proofs.Common.{subst}
use Rattle.np_jobs.specs.Streams.{stream_of}
use Rattle.np_caseless_job.proofs.FoldingLemmas.{refused_bytes}
use Rattle.np_caseless_job.specs.inside.FoldingSteps.{IsFaultIn}
use Rattle.np_caseless_job.proofs.versions.read_data.Goals as goal

pub returns-in-Err-rows_in-clause-refused : goal.returns-in-Err-rows_in-clause-refused
returns-in-Err-rows_in-clause-refused g c =
    let file = stream_of g.R.Read.remaining c.args.data_file.now c.read_data_file.new.data_file in
    refused_bytes file c.in-Ok.bytes.items c.in-Err-rows_in.fault c.in-Ok.ensures.read
    (subst (λ bs. IsFaultIn bs c.in-Err-rows_in.fault) c.as_slice.ensures.value c.in-Err-rows_in.ensures.refused)
