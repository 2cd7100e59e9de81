use Rattle.std.proofs.Common.{[], ◌++◌, ap, append-nil, refl, sym}
use Rattle.std.proofs.lemmas.Result.{err_from_is_err_and}
use Rattle.np_jobs.proofs.OpeningLemmas.{all_zip-append, unopened_among}
use Rattle.np_words.specs.CaselessWords.{folded_names_of}
use Rattle.np_caseless_job.specs.FoldedVersions.{contents_of}
use Rattle.np_caseless_job.proofs.pairs.open_pair.Goals as goal

pub returns-in_err-first-clause-told : goal.returns-in_err-first-clause-told
returns-in_err-first-clause-told g c =
    let p = err_from_is_err_and c.from_residual.result c.from_residual.ensures.1 in
    let opener = c.args.opener.now in
    let old = folded_names_of c.args.old.now in
    let new = folded_names_of c.args.new.now in
    rw (p.1, p.2)
    (unopened_among (g.O.Opener.gives opener) (g.O.Opener.lacks opener) g.E.Write.contents (old ++ new) [] old new [] c.args.error.now c.args.error.now c.open_folded.new.error _
    refl refl tt c.in_err-first.ensures.told)

pub returns-in_err-second-clause-told : goal.returns-in_err-second-clause-told
returns-in_err-second-clause-told g c =
    let p = err_from_is_err_and c.from_residual-in_err-second.result c.from_residual-in_err-second.ensures.1 in
    let opener = c.args.opener.now in
    let old = folded_names_of c.args.old.now in
    let new = folded_names_of c.args.new.now in
    rw (p.1, p.2)
    (unopened_among (g.O.Opener.gives opener) (g.O.Opener.lacks opener) g.E.Write.contents (old ++ new) old new [] (contents_of g.O.File.Read.remaining c.in_ok-first.first)
    c.args.error.now c.open_folded.new.error c.open_folded-2.new.error _
    c.in_ok-first.ensures.silent (ap (λ l. old ++ l) (sym (append-nil new))) c.in_ok-first.ensures.files c.in_err-second.ensures.told)

pub returns-clause-files : goal.returns-clause-files
returns-clause-files g c =
    let tells = g.O.File.Read.remaining in
    all_zip-append (g.O.Opener.gives c.args.opener.now) (folded_names_of c.args.old.now) (folded_names_of c.args.new.now)
    (contents_of tells c.in_ok-first.first) (contents_of tells c.in_ok-second.second) c.in_ok-first.ensures.files c.in_ok-second.ensures.files
