use Rattle.std.proofs.Common.{[], ◌∷◌, ◌++◌, refl}
use Rattle.std.proofs.lemmas.Result.{err_from_is_err_and}
use Rattle.np_code_points.specs.Watched.{device_of}
use Rattle.np_jobs.proofs.OpeningLemmas.{all_zip-append, unopened_among}
use Rattle.np_words.specs.Words.{names_of}
use Rattle.np_program.proofs.program.open_pair.Goals as goal

pub returns-in_err-old_data-clause-told : goal.returns-in_err-old_data-clause-told
returns-in_err-old_data-clause-told g c =
    let p = err_from_is_err_and c.from_residual.result c.from_residual.ensures.1 in
    let opener = c.args.with.now.opener.now in
    let old = names_of c.args.old.now in
    let new = names_of c.args.new.now in
    rw (p.1, p.2)
    (unopened_among (g.P.Opener.gives opener) (g.P.Opener.lacks opener) g.E.Write.contents (old ++ new) [] old new [] c.args.error.now c.args.error.now c.open_version.new.error _
    refl refl tt c.in_err-old_data.ensures.told)

pub returns-in_err-new_data-clause-told : goal.returns-in_err-new_data-clause-told
returns-in_err-new_data-clause-told g c =
    let p = err_from_is_err_and c.from_residual-in_err-new_data.result c.from_residual-in_err-new_data.ensures.1 in
    let tells = g.P.File.Read.remaining in
    let opener = c.args.with.now.opener.now in
    let old = names_of c.args.old.now in
    let new = names_of c.args.new.now in
    rw (p.1, p.2)
    (unopened_among (g.P.Opener.gives opener) (g.P.Opener.lacks opener) g.E.Write.contents (old ++ new) old new [] (tells (device_of c.in_ok-old_data.old_data) ∷ (tells (device_of c.in_ok-old_data.old_exclusions) ∷ []))
    c.args.error.now c.open_version.new.error c.open_version-2.new.error _
    c.in_ok-old_data.ensures.silent refl c.in_ok-old_data.ensures.files c.in_err-new_data.ensures.told)

pub returns-clause-files : goal.returns-clause-files
returns-clause-files g c =
    let tells = g.P.File.Read.remaining in
    all_zip-append (g.P.Opener.gives c.args.with.now.opener.now) (names_of c.args.old.now) (names_of c.args.new.now)
    (tells (device_of c.in_ok-old_data.old_data) ∷ (tells (device_of c.in_ok-old_data.old_exclusions) ∷ []))
    (tells (device_of c.in_ok-new_data.new_data) ∷ (tells (device_of c.in_ok-new_data.new_exclusions) ∷ []))
    c.in_ok-old_data.ensures.files c.in_ok-new_data.ensures.files
