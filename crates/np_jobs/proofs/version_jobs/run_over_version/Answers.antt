use Rattle.std.proofs.Common.{inl, inr, refl}
use Rattle.np_jobs.proofs.OpeningLemmas.{ends_before}
use Rattle.np_jobs.specs.Streams.{stream_of}
use Rattle.np_jobs.specs.Texts.{TextReaders}
use Rattle.np_jobs.proofs.version_jobs.run_over_version.Goals as goal

pub returns-in-Err : goal.returns-in-Err
returns-in-Err g c = inr (c.in-Err.ensures.told, refl, refl)

pub returns-in-Ok : goal.returns-in-Ok
returns-in-Ok g c =
    let tells = g.P.File.Read.remaining in
    let before = c.args.streams.now in
    let after = c.run.new.streams in
    let readers : TextReaders = record {
      data_file = stream_of tells c.in-Ok.data c.run.new.data_file;
      exclusions_file = stream_of tells c.in-Ok.exclusions c.run.new.exclusions_file;
      input = stream_of g.I.Read.remaining before.input after.input;
    } in
    let output = stream_of g.O.Write.contents before.output after.output in
    inl (
      readers,
      record { opened = c.in-Ok.ensures.files; input_is = refl },
      ends_before g.E.Write.contents (λ error. g.J.VersionJob.Ends c.args.job.now readers output error c.run.result)
          before.error c.open_version.new.error after.error c.in-Ok.ensures.silent c.run.ensures,
    )
