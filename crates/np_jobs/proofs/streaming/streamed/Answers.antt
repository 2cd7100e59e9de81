use Rattle.std.proofs.lemmas.Result.{IfErr-weaker, IfOk-weaker}
use Rattle.std.proofs.Common.{inl}
use Rattle.np_jobs.specs.Streaming.{WasStreamed}
use Rattle.np_jobs.specs.Streams.{Stream, stream_of}
use Rattle.np_jobs.proofs.EndLemmas.{on_both}
use Rattle.np_jobs.proofs.streaming.streamed.Goals as goal

pub returns-clause-done : goal.returns-clause-done
returns-clause-done g c =
    let files = g.F.Read.remaining in
    IfOk-weaker c.stream.result _ _
    (λ status runs.
    on_both g.I.Read.remaining g.O.Write.contents c.clear.new.self c.args.input.now c.stream.new.input c.clear-2.new.self c.args.output.now c.stream.new.output c.clear.ensures.device c.clear-2.ensures.device
    (λ (input output : Stream). WasStreamed (g.S.StreamingJob.Runs c.args.job.now status)
    (record { data_file = stream_of files c.args.data_file.now c.read_table_of.new.data_file; exclusions_file = stream_of files c.args.exclusions_file.now c.read_table_of.new.exclusions_file; input = input }) output)
    (record { v = g.T.NormTable.model c.in_ok-table.table; built = c.in_ok-table.ensures.built; runs = runs }))
    c.stream.ensures.done

pub returns-clause-stopped : goal.returns-clause-stopped
returns-clause-stopped g c =
    let files = g.F.Read.remaining in
    IfErr-weaker c.stream.result _ _
    (λ fault stops.
    inl (on_both g.I.Read.remaining g.O.Write.contents c.clear.new.self c.args.input.now c.stream.new.input c.clear-2.new.self c.args.output.now c.stream.new.output c.clear.ensures.device c.clear-2.ensures.device
    (λ (input output : Stream). WasStreamed (g.S.StreamingJob.Stops c.args.job.now fault)
    (record { data_file = stream_of files c.args.data_file.now c.read_table_of.new.data_file; exclusions_file = stream_of files c.args.exclusions_file.now c.read_table_of.new.exclusions_file; input = input }) output)
    (record { v = g.T.NormTable.model c.in_ok-table.table; built = c.in_ok-table.ensures.built; runs = stops })))
    c.stream.ensures.stopped
