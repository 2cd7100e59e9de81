use Rattle.std.proofs.Common.{[], ◌∷◌, inl, inr, refl}
use Rattle.np_jobs.proofs.OpeningLemmas.{ends_before}
use Rattle.np_jobs.specs.KeysUnder.{KeyUnderEnds, UnderReaders}
use Rattle.np_jobs.specs.Chains.{readers_of}
use Rattle.np_jobs.specs.Streams.{stream_of}
use Rattle.np_program.proofs.program.run_key_under.Goals as goal

pub returns-in-Err : goal.returns-in-Err
returns-in-Err g c = inr (c.in-Err.ensures.told, refl, refl)

pub returns-in-Ok : goal.returns-in-Ok
returns-in-Ok g c =
    let pair = c.in-Ok.pair in
    let after = c.key_under_job.new in
    let readers : UnderReaders = record {
      versions = readers_of g.P.File.Read.remaining
          (pair.old_data ∷ pair.old_exclusions ∷ pair.new_data ∷ pair.new_exclusions ∷ [])
          (after.old_data_file ∷ after.old_exclusions_file ∷ after.data_file ∷ after.exclusions_file ∷ []);
      input = stream_of g.I.Read.remaining c.args.streams.now.input after.input;
    } in
    let output = stream_of g.O.Write.contents c.args.streams.now.output after.output in
    inl (
      readers,
      c.in-Ok.ensures.files,
      refl,
      ends_before g.E.Write.contents (λ error. KeyUnderEnds c.args.form readers output error c.key_under_job.result)
          c.args.streams.now.error c.open_pair.new.error after.error c.in-Ok.ensures.silent c.key_under_job.ensures,
    )
