use Rattle.std.proofs.Common.{[], ◌∷◌, ap, append-nil, flat_map, refl, sym}
use Rattle.std.proofs.lemmas.Result.{err_from_is_err_and}
use Rattle.np_jobs.proofs.OpeningLemmas.{unopened_among}
use Rattle.np_words.specs.Words.{names_of}
use Rattle.np_program.proofs.program.open_scheduled.Goals as goal

pub returns-in_err-schedule-clause-told : goal.returns-in_err-schedule-clause-told
returns-in_err-schedule-clause-told g c =
    let p = err_from_is_err_and c.from_residual.result c.from_residual.ensures.1 in
    let opener = c.args.with.now.opener.now in
    let schedule = c.args.schedule_file.now in
    let files = flat_map names_of c.args.version_files.now in
    rw (p.1, p.2)
    (unopened_among (g.P.Opener.gives opener) (g.P.Opener.lacks opener) g.E.Write.contents (schedule ∷ files) [] (schedule ∷ []) files [] c.args.error.now c.args.error.now c.open_file.new.error _
    refl refl tt c.in_err-schedule.ensures.told)

pub returns-in_err-files-clause-told : goal.returns-in_err-files-clause-told
returns-in_err-files-clause-told g c =
    let p = err_from_is_err_and c.from_residual-in_err-files.result c.from_residual-in_err-files.ensures.1 in
    let opener = c.args.with.now.opener.now in
    let schedule = c.args.schedule_file.now in
    let files = flat_map names_of c.args.version_files.now in
    rw (p.1, p.2)
    (unopened_among (g.P.Opener.gives opener) (g.P.Opener.lacks opener) g.E.Write.contents (schedule ∷ files) (schedule ∷ []) files [] (_ ∷ []) c.args.error.now c.open_file.new.error c.open_versions.new.error _
    c.in_ok-schedule.ensures.silent (ap (λ l. schedule ∷ l) (sym (append-nil files))) (c.in_ok-schedule.ensures.file, tt) c.in_err-files.ensures.told)
