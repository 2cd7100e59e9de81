use Rattle.std.proofs.Common.{inl, inr, refl}
use Rattle.np_jobs.proofs.OpeningLemmas.{ends_before}
use Rattle.np_jobs.specs.Streams.{stream_of}
use Rattle.np_caseless_job.specs.FoldedTexts.{FoldedTextReaders}
use Rattle.np_caseless_job.specs.FoldedVersions.{folded_readers_of}
use Rattle.np_caseless_job.proofs.folded_jobs.run_over_folded.Goals as goal

pub returns-in-Err : goal.returns-in-Err
returns-in-Err g c = inr (c.in-Err.ensures.told, refl, refl)

pub returns-in-Ok : goal.returns-in-Ok
returns-in-Ok g c =
    let tells = g.P.File.Read.remaining in
    let before = c.args.streams.now in
    let after = c.run.new.streams in
    let readers : FoldedTextReaders = record {
      files = folded_readers_of tells c.in-Ok.opened c.run.new.files;
      input = stream_of g.I.Read.remaining before.input after.input;
    } in
    let output = stream_of g.O.Write.contents before.output after.output in
    inl (
      readers,
      record { opened = c.in-Ok.ensures.files; input_is = refl },
      ends_before g.E.Write.contents (λ error. g.J.FoldedJob.Ends c.args.job.now readers output error c.run.result)
          before.error c.open_folded.new.error after.error c.in-Ok.ensures.silent c.run.ensures,
    )
