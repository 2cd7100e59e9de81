use Rattle.std.proofs.Common.{inl, inr, refl}
use Rattle.np_jobs.proofs.OpeningLemmas.{ends_before}
use Rattle.np_jobs.specs.Streams.{stream_of}
use Rattle.np_caseless_job.specs.CaselessKeysUnder.{CaselessUnderEnds, FoldedUnderReaders}
use Rattle.np_caseless_job.specs.FoldedVersions.{folded_readers_of}
use Rattle.np_caseless_job.proofs.program.run_key_under.Goals as goal

pub returns-in-Err : goal.returns-in-Err
returns-in-Err g c = inr (c.in-Err.ensures.told, refl, refl)

pub returns-in-Ok : goal.returns-in-Ok
returns-in-Ok g c =
    let tells = g.P.File.Read.remaining in
    let before = c.args.streams.now in
    let after = c.key_under_job.new.streams in
    let readers : FoldedUnderReaders = record {
      pair = record {
        first = folded_readers_of tells c.in-Ok.pair.first c.key_under_job.new.pair.first;
        second = folded_readers_of tells c.in-Ok.pair.second c.key_under_job.new.pair.second;
      };
      input = stream_of g.I.Read.remaining before.input after.input;
    } in
    let output = stream_of g.O.Write.contents before.output after.output in
    inl (
      readers,
      c.in-Ok.ensures.files,
      refl,
      ends_before g.E.Write.contents (λ error. CaselessUnderEnds c.args.form readers output error c.key_under_job.result)
          before.error c.open_pair.new.error after.error c.in-Ok.ensures.silent c.key_under_job.ensures,
    )
