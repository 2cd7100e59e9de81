use Rattle.std.proofs.Common.{◌≡◌, ◌*◌, ◌∙◌, ap, arith, flat_map, inl, inr, length, map, refl, subst, sym}
use Rattle.std.specs.List.{AllZip}
use Rattle.np_code_points.specs.Watched.{device_of}
use Rattle.np_jobs.proofs.OpeningLemmas.{befores, ends_before}
use Rattle.np_jobs.specs.Chains.{readers_of}
use Rattle.np_jobs.specs.Streams.{stream_of}
use Rattle.np_program.specs.Replays.{ReplayEnds, ReplayReaders}
use Rattle.np_words.specs.Words.{names_of}
use Rattle.np_program.proofs.program.run_replay.Goals as goal

pub returns-in-Err-clause-ends : goal.returns-in-Err-clause-ends
returns-in-Err-clause-ends g c = inr (c.in-Err.ensures.told, refl, refl)

pub returns-in-Ok-clause-ends : goal.returns-in-Ok-clause-ends
returns-in-Ok-clause-ends g c =
    let tells = g.P.File.Read.remaining in
    let gives = g.P.Opener.gives c.args.with.now.opener.now in
    let names = flat_map names_of c.args.version_files.now in
    let count = length c.args.version_files.now in
    let old = c.as_mut_slice.result.now in
    let new = c.replay_job.new.files in
    let readers : ReplayReaders = record { schedule_file = stream_of tells c.in-Ok.schedule c.replay_job.new.schedule_file; versions = readers_of tells old new } in
    let size : length old ≡ 2 * count = omega (arith, c.as_mut_slice.ensures.len, c.in-Ok.ensures.count) in
    let kept : length new ≡ 2 * count = omega (arith, size, c.replay_job.auto.files) in
    let same = befores tells count old new size kept ∙ ap (map (λ file. tells (device_of file))) c.as_mut_slice.ensures.value in
    let output = stream_of g.O.Write.contents c.args.streams.now.output c.replay_job.new.output in
    inl (
      readers,
      (c.in-Ok.ensures.schedule, subst (AllZip gives names) (sym same) c.in-Ok.ensures.files),
      ends_before g.E.Write.contents (λ error. ReplayEnds c.args.form readers output error c.replay_job.result)
          c.args.streams.now.error c.open_scheduled.new.error c.replay_job.new.error c.in-Ok.ensures.silent c.replay_job.ensures,
    )
