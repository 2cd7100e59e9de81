use Rattle.std.proofs.Common.{[], ◌∷◌, ◌++◌, ap, refl, string_bytes, sym}
use Rattle.std.proofs.lemmas.Result.{err_from_is_err_and}
use Rattle.np_code_points.specs.Watched.{device_of}
use Rattle.np_jobs.proofs.OpeningLemmas.{all_zip-append, unopened_among}
use Rattle.np_words.specs.Words.{names_of}
use Rattle.np_caseless_job.proofs.files.open_folded.Goals as goal

pub returns-in_err-data_file-clause-told : goal.returns-in_err-data_file-clause-told
returns-in_err-data_file-clause-told g c =
    let p = err_from_is_err_and c.from_residual.result c.from_residual.ensures.1 in
    let opener = c.args.opener.now in
    let version = names_of c.args.files.now.version in
    let folding = string_bytes c.args.files.now.folding_file ∷ [] in
    rw (p.1, p.2)
    (unopened_among (g.O.Opener.gives opener) (g.O.Opener.lacks opener) g.E.Write.contents (version ++ folding) [] version folding [] c.args.error.now c.args.error.now c.open_version.new.error _
    refl refl tt c.in_err-data_file.ensures.told)

pub returns-in_err-folding_file-clause-told : goal.returns-in_err-folding_file-clause-told
returns-in_err-folding_file-clause-told g c =
    let p = err_from_is_err_and c.from_residual-in_err-folding_file.result c.from_residual-in_err-folding_file.ensures.1 in
    let tells = g.O.File.Read.remaining in
    let opener = c.args.opener.now in
    let version = names_of c.args.files.now.version in
    let folding = string_bytes c.args.files.now.folding_file ∷ [] in
    rw (p.1, p.2)
    (unopened_among (g.O.Opener.gives opener) (g.O.Opener.lacks opener) g.E.Write.contents (version ++ folding) version (c.as_str.result.now ∷ []) []
    (tells (device_of c.in_ok-data_file.data_file) ∷ (tells (device_of c.in_ok-data_file.exclusions_file) ∷ [])) c.args.error.now c.open_version.new.error c.open_file.new.error _
    c.in_ok-data_file.ensures.silent (ap (λ name. version ++ name ∷ []) (sym c.as_str.ensures.value)) c.in_ok-data_file.ensures.files c.in_err-folding_file.ensures.told)

pub returns-clause-files : goal.returns-clause-files
returns-clause-files g c =
    let tells = g.O.File.Read.remaining in
    let opener = c.args.opener.now in
    all_zip-append (g.O.Opener.gives opener) (names_of c.args.files.now.version) (string_bytes c.args.files.now.folding_file ∷ [])
    (tells (device_of c.in_ok-data_file.data_file) ∷ (tells (device_of c.in_ok-data_file.exclusions_file) ∷ []))
    (tells (device_of c.in_ok-folding_file.folding_file) ∷ [])
    c.in_ok-data_file.ensures.files (rw (← c.as_str.ensures.value) c.in_ok-folding_file.ensures.file, tt)
