use Rattle.std.proofs.Common.{[], ◌∷◌, ◌∙◌, ap, refl, string_bytes, sym}
use Rattle.std.proofs.lemmas.Result.{err_from_is_err_and}
use Rattle.np_jobs.proofs.OpeningLemmas.{unopened_among}
use Rattle.np_words.specs.Words.{names_of}
use Rattle.np_jobs.proofs.opening.open_version.Goals as goal

pub returns-in_err-data-clause-told : goal.returns-in_err-data-clause-told
returns-in_err-data-clause-told g c =
    let p = err_from_is_err_and c.from_residual.result c.from_residual.ensures.1 in
    let opener = c.args.opener.now in
    let behind = string_bytes c.args.files.now.exclusions_file ∷ [] in
    rw (p.1, p.2)
    (unopened_among (g.O.Opener.gives opener) (g.O.Opener.lacks opener) g.E.Write.contents (names_of c.args.files.now) [] (c.as_str.result.now ∷ []) behind [] c.args.error.now c.args.error.now c.open_file.new.error _
    refl (ap (λ name. name ∷ behind) (sym c.as_str.ensures.value)) tt c.in_err-data.ensures.told)

pub returns-in_err-exclusions-clause-told : goal.returns-in_err-exclusions-clause-told
returns-in_err-exclusions-clause-told g c =
    let p = err_from_is_err_and c.from_residual-in_err-exclusions.result c.from_residual-in_err-exclusions.ensures.1 in
    let opener = c.args.opener.now in
    let first = c.as_str.result.now in
    let exclusions = string_bytes c.args.files.now.exclusions_file in
    rw (p.1, p.2)
    (unopened_among (g.O.Opener.gives opener) (g.O.Opener.lacks opener) g.E.Write.contents (names_of c.args.files.now) (first ∷ []) (c.as_str-2.result.now ∷ []) [] (_ ∷ []) c.args.error.now c.open_file.new.error c.open_file-2.new.error _
    c.in_ok-data.ensures.silent
    (ap (λ name. name ∷ (exclusions ∷ [])) (sym c.as_str.ensures.value) ∙ ap (λ name. first ∷ (name ∷ [])) (sym c.as_str-2.ensures.value))
    (c.in_ok-data.ensures.file, tt) c.in_err-exclusions.ensures.told)

pub returns-clause-files : goal.returns-clause-files
returns-clause-files g c = (rw (← c.as_str.ensures.value) c.in_ok-data.ensures.file, (rw (← c.as_str-2.ensures.value) c.in_ok-exclusions.ensures.file, tt))
